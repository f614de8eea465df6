use Rattle.std.proofs.Common.{Some, None, get_or}
use Rattle.zones.specs.Bound.{tighten}
use Rattle.zones.specs.Zone.{bound}
use Rattle.zones.specs.RowWrites.{IsRowWritten}
use Rattle.zones.proofs.table.tighten_row.Given as goal

abbrev pub invariant-loop-q : goal.invariant-loop-q
invariant-loop-q l = IsRowWritten l.fn.table l.table (λ b. tighten (bound l.fn.table l.p b) (Some l.to) l.c (get_or l.row b None)) l.p l.q
