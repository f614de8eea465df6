use Rattle.zones.proofs.Kept.{IsZone-after_shift}
use Rattle.zones.proofs.Soundness.{Holds-after_shift}
use Rattle.zones.proofs.ReachLemmas.{AreUnknown-beyond, reach-in_range}
use Rattle.zones.proofs.ReachSteps.{unknown-after_shift}
use Rattle.zones.proofs.zone.Zone.shift.Goals as goal

pub returns-clause-sound : goal.returns-clause-sound
returns-clause-sound c before after holds same up down =
    rw (c.shift_table.ensures.exact, c.place-p.ensures.value)
    (Holds-after_shift _ _ _ _ before after (rw (← c.place-p.ensures.value) c.place-p.ensures.in_range)
    (rw c.self.view_is holds) same up down)

pub invariant_of-self : goal.invariant_of-self
invariant_of-self c = record { zone = rw c.shift_table.ensures.exact (IsZone-after_shift _ _ _ _ c.self.invariant.zone); known = c.reach_within-self-inside.ensures.value }

pub reach_with-most-requires-clause-in_range : goal.reach_with-most-requires-clause-in_range
reach_with-most-requires-clause-in_range c = reach-in_range _ _ c.self.invariant.known

pub shift_table-requires-clause-unknown : goal.shift_table-requires-clause-unknown
shift_table-requires-clause-unknown c = AreUnknown-beyond _ _ _ c.self.invariant.known c.reach_with-most.ensures.reach

pub reach_within-self-inside-requires-clause-unknown : goal.reach_within-self-inside-requires-clause-unknown
reach_within-self-inside-requires-clause-unknown c =
    rw c.shift_table.ensures.exact (unknown-after_shift _ _ _ _ _ c.reach_with-most.ensures.x c.reach_with-most.ensures.in_range (AreUnknown-beyond _ _ _ c.self.invariant.known c.reach_with-most.ensures.reach))
