use Rattle.zones.specs.Zone.{bound}
use Rattle.zones.specs.RowWrites.{IsRowWritten}
use Rattle.zones.proofs.two_tables.copy_row.Given as goal

abbrev pub invariant-loop-q : goal.invariant-loop-q
invariant-loop-q l = IsRowWritten l.fn.table l.table (bound l.other l.p) l.p l.q
