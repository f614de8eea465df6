use Rattle.zones.specs.Steps.{any_bound}
use Rattle.zones.specs.RowWrites.{IsRowWritten}
use Rattle.zones.proofs.table.clear_row.Given as goal

abbrev pub invariant-loop-q : goal.invariant-loop-q
invariant-loop-q l = IsRowWritten l.fn.table l.table (any_bound l.p) l.p l.q
