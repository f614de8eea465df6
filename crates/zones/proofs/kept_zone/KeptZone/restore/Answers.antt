use Rattle.zones.proofs.ReachLemmas.{AreUnknown-reach, reach-in_range}
use Rattle.zones.proofs.Rising.{AreUnknown-written}
use Rattle.zones.proofs.kept_zone.KeptZone.restore.Goals as goal

pub clear_table-requires-clause-most_in_range : goal.clear_table-requires-clause-most_in_range
clear_table-requires-clause-most_in_range c = reach-in_range _ _ c.zone.invariant.known

pub clear_table-requires-clause-unknown : goal.clear_table-requires-clause-unknown
clear_table-requires-clause-unknown c = AreUnknown-reach _ _ c.zone.invariant.known

pub reach_within-zone-inside-requires-clause-unknown : goal.reach_within-zone-inside-requires-clause-unknown
reach_within-zone-inside-requires-clause-unknown c =
    rw (c.write_entries-most.ensures.exact, c.clear_table.ensures.exact) (AreUnknown-written c.as_slice.result.now c.write_entries-most.result c.write_entries-most.ensures.within)
