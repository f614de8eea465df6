use Rattle.std.proofs.Common.{arith}
use Rattle.zones.proofs.Merging.{IsZone-merged, unknown-merged}
use Rattle.zones.proofs.ReachLemmas.{AreUnknown-beyond, reach-in_range}
use Rattle.zones.proofs.zone.Zone.merge.Goals as goal

pub invariant_of-self : goal.invariant_of-self
invariant_of-self c = record {
  zone = rw c.merge_table.ensures.exact (IsZone-merged _ _ _ c.self.invariant.zone c.other.invariant.zone);
  known = c.reach_within-self-inside.ensures.value;
}

pub merge_table-requires-clause-most_in_range : goal.merge_table-requires-clause-most_in_range
merge_table-requires-clause-most_in_range c = omega (arith, reach-in_range _ _ c.self.invariant.known, reach-in_range _ _ c.other.invariant.known, c.max-most.ensures)

pub merge_table-requires-clause-unknown : goal.merge_table-requires-clause-unknown
merge_table-requires-clause-unknown c = AreUnknown-beyond _ _ _ c.self.invariant.known (omega (arith, c.max-most.ensures))

pub merge_table-requires-clause-other_unknown : goal.merge_table-requires-clause-other_unknown
merge_table-requires-clause-other_unknown c = AreUnknown-beyond _ _ _ c.other.invariant.known (omega (arith, c.max-most.ensures))

pub reach_within-self-inside-requires-clause-in_range : goal.reach_within-self-inside-requires-clause-in_range
reach_within-self-inside-requires-clause-in_range c = omega (arith, reach-in_range _ _ c.self.invariant.known, reach-in_range _ _ c.other.invariant.known, c.max-most.ensures)

pub reach_within-self-inside-requires-clause-unknown : goal.reach_within-self-inside-requires-clause-unknown
reach_within-self-inside-requires-clause-unknown c =
    rw c.merge_table.ensures.exact
    (unknown-merged _ _ _ _ (AreUnknown-beyond _ _ _ c.self.invariant.known (omega (arith, c.max-most.ensures)))
    (AreUnknown-beyond _ _ _ c.other.invariant.known (omega (arith, c.max-most.ensures))))
