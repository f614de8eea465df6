use Rattle.std.proofs.Common.{arith}
use Rattle.zones.proofs.ReachLemmas.{AreUnknown-beyond, reach-in_range}
use Rattle.zones.proofs.Soundness.{Holds-covers}
use Rattle.zones.proofs.zone.Zone.covers.Goals as goal

pub returns-clause-sound : goal.returns-clause-sound
returns-clause-sound c t number h =
    rw (← c.self.view_is) (Holds-covers _ _ number (c.table_covers.ensures.exact.0 t) (rw c.other.view_is h))

pub table_covers-requires-clause-most_in_range : goal.table_covers-requires-clause-most_in_range
table_covers-requires-clause-most_in_range c = omega (arith, reach-in_range _ _ c.self.invariant.known, reach-in_range _ _ c.other.invariant.known, c.max.ensures)

pub table_covers-requires-clause-weak_unknown : goal.table_covers-requires-clause-weak_unknown
table_covers-requires-clause-weak_unknown c = AreUnknown-beyond _ _ _ c.self.invariant.known (omega (arith, c.max.ensures))

pub table_covers-requires-clause-strong_unknown : goal.table_covers-requires-clause-strong_unknown
table_covers-requires-clause-strong_unknown c = AreUnknown-beyond _ _ _ c.other.invariant.known (omega (arith, c.max.ensures))
