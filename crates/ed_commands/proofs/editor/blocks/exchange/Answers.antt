-- The lines of the block are new ones.
use Rattle.std.proofs.Common.{◌∙◌, ap, map}
use Rattle.ed_base.specs.Buffer.{plain_line}
use Rattle.ed_base.specs.Parts.{exchanged}
use Rattle.ed_commands.proofs.editor.blocks.exchange.Goals as goal

pub returns-in-Ok-clause-put : goal.returns-in-Ok-clause-put
returns-in-Ok-clause-put g c =
    let old = g.S.LineStore.lines c.args.store.now in
    c.in-Ok.ensures.put
    ∙ ap (λ t. exchanged c.args.from c.args.to (map plain_line t) old) c.in_ok-new.ensures.value
    ∙ ap (λ t. exchanged c.args.from c.args.to t old) c.requires.new
