use Rattle.bre_match.proofs.witnesses.WatchSteps.{next_more}
use Rattle.bre_match.proofs.witness.watches.Watches.next.Goals as goal

pub loop-at-preserved : goal.loop-at-preserved
loop-at-preserved c =
    next_more c.args.answers.now c.args.self.now c.loop-at.at c.index-answers-at.result _ c.in_ok-next.next c.args.text.now c.args.place
    c.loop-at.each.items c.push.new.self.items _ c.loop-at-test.true c.index-answers-at.is c.at.ensures.value c.in_ok-next.ensures.value
    c.in_ok-push.ensures.items c.loop-at.invariant
