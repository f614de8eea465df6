use Rattle.zones.proofs.Kept.{IsZone-after_put}
use Rattle.zones.proofs.Soundness.{Holds-after_put}
use Rattle.zones.proofs.ReachLemmas.{AreUnknown-beyond, reach-in_range}
use Rattle.zones.proofs.ReachSteps.{unknown-after_put}
use Rattle.zones.proofs.zone.Zone.put.Goals as goal

pub returns-clause-sound : goal.returns-clause-sound
returns-clause-sound c numbers holds h =
    rw (c.put_table.ensures.exact, c.place-p.ensures.value, c.place-q.ensures.value)
    (Holds-after_put _ _ _ _ numbers (rw c.self.view_is holds) h)

pub invariant_of-self : goal.invariant_of-self
invariant_of-self c = record { zone = rw c.put_table.ensures.exact (IsZone-after_put _ _ _ _ c.self.invariant.zone); known = c.reach_within-self-inside.ensures.value }

pub reach_with-most-requires-clause-in_range : goal.reach_with-most-requires-clause-in_range
reach_with-most-requires-clause-in_range c = reach-in_range _ _ c.self.invariant.known

pub reach_within-self-inside-requires-clause-unknown : goal.reach_within-self-inside-requires-clause-unknown
reach_within-self-inside-requires-clause-unknown c =
    rw c.put_table.ensures.exact (unknown-after_put _ _ _ _ _ c.reach_with-most.ensures.x c.reach_with-most.ensures.y (AreUnknown-beyond _ _ _ c.self.invariant.known c.reach_with-most.ensures.reach))
