use Rattle.std.proofs.lemmas.Int.{to_z-of_z}
use Rattle.zones.proofs.Kept.{IsZone-after_guard}
use Rattle.zones.proofs.Soundness.{Holds-after_guard}
use Rattle.zones.proofs.ReachLemmas.{AreUnknown-beyond, reach-in_range}
use Rattle.zones.proofs.ReachSteps.{unknown-after_guard}
use Rattle.zones.proofs.zone.Zone.guard.Goals as goal

pub returns-clause-sound : goal.returns-clause-sound
returns-clause-sound c number holds h =
    rw c.guard_table.ensures.exact
    (Holds-after_guard _ _ _ _ number c.place-p.ensures.in_range c.place-q.ensures.in_range
    (rw c.self.view_is holds)
    (rw (c.place-p.ensures.value, c.place-q.ensures.value, to_z-of_z _ _ c.ranges.c) h))

pub invariant_of-self : goal.invariant_of-self
invariant_of-self c = record { zone = rw c.guard_table.ensures.exact (IsZone-after_guard _ _ _ _); known = c.reach_within-self-inside.ensures.value }

pub reach_with-most-requires-clause-in_range : goal.reach_with-most-requires-clause-in_range
reach_with-most-requires-clause-in_range c = reach-in_range _ _ c.self.invariant.known

pub guard_table-requires-clause-unknown : goal.guard_table-requires-clause-unknown
guard_table-requires-clause-unknown c = AreUnknown-beyond _ _ _ c.self.invariant.known c.reach_with-most.ensures.reach

pub reach_within-self-inside-requires-clause-unknown : goal.reach_within-self-inside-requires-clause-unknown
reach_within-self-inside-requires-clause-unknown c =
    rw c.guard_table.ensures.exact (unknown-after_guard _ _ _ _ _ c.reach_with-most.ensures.x c.reach_with-most.ensures.y c.reach_with-most.ensures.in_range c.self.invariant.zone (AreUnknown-beyond _ _ _ c.self.invariant.known c.reach_with-most.ensures.reach))
