-- What is kept of the lines is told from their texts and the places of their letters.
use Rattle.std.proofs.Common.{◌∙◌, ap}
use Rattle.ed_base.specs.Buffer.{texts}
use Rattle.ed_commands.specs.Earlier.{earlier_after, earlier_of}
use Rattle.ed_commands.proofs.Kept.{kept-own}
use Rattle.ed_commands.proofs.editor.past.Past.begin.Goals as goal

pub returns-else-before-clause-kept : goal.returns-else-before-clause-kept
returns-else-before-clause-kept g c =
    let lines = g.S.LineStore.lines c.args.store.now in
    c.begin_with.ensures.kept (texts lines)
    ∙ ap (λ k. earlier_after c.args.before.listed k (earlier_of c.args.self.now (texts lines))) (kept-own c.args.before.current c.of.result lines c.of.ensures.own)
