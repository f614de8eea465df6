use Rattle.zones.specs.Merging.{merge_at}
use Rattle.zones.proofs.RowWrites.{IsTableWritten}
use Rattle.zones.proofs.two_tables.merge_table.Given as goal

abbrev pub invariant-loop-p : goal.invariant-loop-p
invariant-loop-p l = IsTableWritten l.fn.table l.table (merge_at l.merge l.fn.table l.other) l.p
