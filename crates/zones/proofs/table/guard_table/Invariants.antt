use Rattle.zones.specs.Steps.{guard_bound}
use Rattle.zones.proofs.RowWrites.{IsTableWritten}
use Rattle.zones.proofs.table.guard_table.Given as goal

abbrev pub invariant-loop-p : goal.invariant-loop-p
invariant-loop-p l = IsTableWritten l.fn.table l.table (guard_bound l.fn.table l.x l.y l.c) l.p
