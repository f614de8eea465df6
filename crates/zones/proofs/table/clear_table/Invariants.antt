use Rattle.zones.specs.Steps.{any_bound}
use Rattle.zones.proofs.RowWrites.{IsTableWritten}
use Rattle.zones.proofs.table.clear_table.Given as goal

abbrev pub invariant-loop-p : goal.invariant-loop-p
invariant-loop-p l = IsTableWritten l.fn.table l.table any_bound l.p
