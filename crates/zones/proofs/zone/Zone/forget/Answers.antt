use Rattle.zones.proofs.Kept.{IsZone-after_forget}
use Rattle.zones.proofs.Soundness.{Holds-after_forget}
use Rattle.zones.proofs.ReachLemmas.{AreUnknown-beyond, reach-in_range}
use Rattle.zones.proofs.ReachSteps.{unknown-after_forget}
use Rattle.zones.proofs.zone.Zone.forget.Goals as goal

pub returns-clause-sound : goal.returns-clause-sound
returns-clause-sound c before after holds same =
    rw (c.forget_table.ensures.exact, c.place-p.ensures.value)
    (Holds-after_forget _ _ before after (rw c.self.view_is holds) same)

pub invariant_of-self : goal.invariant_of-self
invariant_of-self c = record { zone = rw c.forget_table.ensures.exact (IsZone-after_forget _ _ c.self.invariant.zone); known = c.reach_within-self-inside.ensures.value }

pub reach_with-most-requires-clause-in_range : goal.reach_with-most-requires-clause-in_range
reach_with-most-requires-clause-in_range c = reach-in_range _ _ c.self.invariant.known

pub forget_table-requires-clause-unknown : goal.forget_table-requires-clause-unknown
forget_table-requires-clause-unknown c = AreUnknown-beyond _ _ _ c.self.invariant.known c.reach_with-most.ensures.reach

pub reach_within-self-inside-requires-clause-unknown : goal.reach_within-self-inside-requires-clause-unknown
reach_within-self-inside-requires-clause-unknown c =
    rw c.forget_table.ensures.exact (unknown-after_forget _ _ _ c.reach_with-most.ensures.x c.reach_with-most.ensures.in_range (AreUnknown-beyond _ _ _ c.self.invariant.known c.reach_with-most.ensures.reach))
