use Rattle.std.proofs.Common.{arith}
use Rattle.zones.proofs.ReachLemmas.{AreUnknown-beyond, reach-in_range}
use Rattle.zones.proofs.zone.Zone.copy_from.Goals as goal

pub copy_table-requires-clause-most_in_range : goal.copy_table-requires-clause-most_in_range
copy_table-requires-clause-most_in_range c = omega (arith, reach-in_range _ _ c.self.invariant.known, reach-in_range _ _ c.other.invariant.known, c.max.ensures)

pub copy_table-requires-clause-unknown : goal.copy_table-requires-clause-unknown
copy_table-requires-clause-unknown c = AreUnknown-beyond _ _ _ c.self.invariant.known (omega (arith, c.max.ensures))

pub copy_table-requires-clause-other_unknown : goal.copy_table-requires-clause-other_unknown
copy_table-requires-clause-other_unknown c = AreUnknown-beyond _ _ _ c.other.invariant.known (omega (arith, c.max.ensures))
