use Rattle.zones.specs.Zone.{bound}
use Rattle.zones.proofs.RowWrites.{IsTableWritten}
use Rattle.zones.proofs.two_tables.copy_table.Given as goal

abbrev pub invariant-loop-p : goal.invariant-loop-p
invariant-loop-p l = IsTableWritten l.fn.table l.table (bound l.other) l.p
