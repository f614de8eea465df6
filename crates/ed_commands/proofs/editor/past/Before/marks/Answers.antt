-- What is kept of the lines is told from their texts and the places of their letters.
use Rattle.std.proofs.Common.{ap}
use Rattle.ed_commands.specs.Earlier.{earlier_after}
use Rattle.ed_commands.proofs.Kept.{kept-own}
use Rattle.ed_commands.proofs.editor.past.Before.marks.Goals as goal

pub returns : goal.returns
returns g c = record {
  kept = λ earlier. ap (λ k. earlier_after c.args.self.listed k earlier)
      (kept-own c.args.self.current c.of.result (g.S.LineStore.lines c.args.store.now) c.of.ensures.own);
}
