-- The one new line is put in place of the other.
use Rattle.std.proofs.Common.{◌+◌, ◌∙◌, ap, sym}
use Rattle.ed_base.specs.Parts.{exchanged}
use Rattle.ed_commands.proofs.Blocks.{only-one, set-one, text-one}
use Rattle.ed_commands.proofs.editor.blocks.exchange_one.Goals as goal

pub returns-in-Ok-clause-put : goal.returns-in-Ok-clause-put
returns-in-Ok-clause-put g c =
    let old = g.S.LineStore.lines c.args.store.now in
    let at = c.args.at in
    c.in-Ok.ensures.exchanged
    ∙ set-one at c.in-Some.line old c.requires.place
    ∙ ap (λ t. exchanged at (at + 1) t old) (sym (only-one c.args.lines.items _ _ c.in-Some.line c.pop.ensures.items c.in-Some.is c.requires.one))

pub returns-in-Ok-clause-taken : goal.returns-in-Ok-clause-taken
returns-in-Ok-clause-taken g c =
    c.of.ensures.value ∙ text-one c.args.at (g.S.LineStore.lines c.args.store.now) c.in-Ok.before c.requires.place c.in-Ok.ensures.value
