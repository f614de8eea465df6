-- The lines are the same, however many are cut.
use Rattle.std.proofs.Common.{◌≡◌, ◌+◌, ◌-◌, length}
use Rattle.line_store.specs.Cut.{all_lines}
use Rattle.line_store.proofs.cut_lines.CutLines.open_line.Given as goal

abbrev pub invariant-cuts : goal.invariant-cuts
invariant-cuts g l = all_lines l.self ≡ all_lines l.fn.self

abbrev pub decreases-cuts : goal.decreases-cuts
decreases-cuts g l = (l.i + 1) - length l.self.cut
