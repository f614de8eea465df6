use Rattle.std.proofs.lemmas.Int.{to_z-of_z}
use Rattle.zones.proofs.Kept.{IsZone-after_set}
use Rattle.zones.proofs.Soundness.{Holds-after_set}
use Rattle.zones.proofs.ReachLemmas.{AreUnknown-beyond, reach-in_range}
use Rattle.zones.proofs.ReachSteps.{unknown-after_set}
use Rattle.zones.proofs.zone.Zone.set.Goals as goal

pub returns-clause-sound : goal.returns-clause-sound
returns-clause-sound c before after holds same e =
    rw c.set_table.ensures.exact
    (Holds-after_set _ _ _ _ before after c.place-p.ensures.in_range c.place-q.ensures.in_range
    (rw c.self.view_is holds)
    (rw c.place-p.ensures.value same)
    (rw (c.place-p.ensures.value, c.place-q.ensures.value, to_z-of_z _ _ c.ranges.c) e))

pub invariant_of-self : goal.invariant_of-self
invariant_of-self c = record { zone = rw c.set_table.ensures.exact (IsZone-after_set _ _ _ _ c.self.invariant.zone); known = c.reach_within-self-inside.ensures.value }

pub reach_with-most-requires-clause-in_range : goal.reach_with-most-requires-clause-in_range
reach_with-most-requires-clause-in_range c = reach-in_range _ _ c.self.invariant.known

pub set_table-requires-clause-unknown : goal.set_table-requires-clause-unknown
set_table-requires-clause-unknown c = AreUnknown-beyond _ _ _ c.self.invariant.known c.reach_with-most.ensures.reach

pub reach_within-self-inside-requires-clause-unknown : goal.reach_within-self-inside-requires-clause-unknown
reach_within-self-inside-requires-clause-unknown c =
    rw c.set_table.ensures.exact (unknown-after_set _ _ _ _ _ c.reach_with-most.ensures.x c.reach_with-most.ensures.y c.reach_with-most.ensures.in_range (AreUnknown-beyond _ _ _ c.self.invariant.known c.reach_with-most.ensures.reach))
