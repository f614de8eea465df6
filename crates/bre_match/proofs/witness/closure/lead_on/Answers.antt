use Rattle.std.proofs.Common.{refl}
use Rattle.bre_match.proofs.witnesses.ClosedSets.{still_stay}
use Rattle.bre_match.proofs.witness.closure.lead_on.Goals as goal

pub loop-at-preserved : goal.loop-at-preserved
loop-at-preserved c = (
  still_stay c.args.known.now.items c.loop-at.known.items c.go_on.new.known.items c.loop-at.invariant.0 c.in_ok-go_on.ensures.stay,
  λ few. c.in_ok-go_on.ensures.few (c.loop-at.invariant.1 few),
  c.in_ok-go_on.ensures.on c.if-not-branch.false c.args.kinds.now c.loop-at.at refl c.loop-at.invariant.2,
)
