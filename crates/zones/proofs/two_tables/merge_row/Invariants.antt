use Rattle.zones.specs.RowWrites.{IsRowWritten}
use Rattle.zones.specs.Merging.{merge_at}
use Rattle.zones.proofs.two_tables.merge_row.Given as goal

abbrev pub invariant-loop-q : goal.invariant-loop-q
invariant-loop-q l = IsRowWritten l.fn.table l.table (merge_at l.merge l.fn.table l.other l.p) l.p l.q
