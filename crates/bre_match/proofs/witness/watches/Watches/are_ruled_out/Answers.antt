use Rattle.bre_match.proofs.witnesses.WatchSteps.{out_more}
use Rattle.std.proofs.Common.{sym, ◌∙◌}
use Rattle.bre_match.proofs.witness.watches.Watches.are_ruled_out.Goals as goal

pub loop-at-preserved : goal.loop-at-preserved
loop-at-preserved c =
    out_more c.args.answers.now c.args.self.now c.loop-at.at c.index-answers-at.result _ _ c.loop-at-test.true c.index-answers-at.is c.at.ensures.value
    (sym c.is_out.ensures.value ∙ c.if-is_out.false) c.loop-at.invariant
