use Rattle.zones.specs.Bound.{raise}
use Rattle.zones.specs.Zone.{bound}
use Rattle.zones.specs.RowWrites.{IsRowWritten}
use Rattle.zones.proofs.table.write_row.Given as goal

abbrev pub invariant-loop-q : goal.invariant-loop-q
invariant-loop-q l = IsRowWritten l.fn.table l.table (λ b. raise (bound l.fn.table l.y b) l.high) l.x l.q
