-- What is left isn't longer than the bytes.
use Rattle.std.proofs.Common.{◌-◌, ◌≤◌, length}
use Rattle.ed_syntax.proofs.spans.after_lines.Given as goal

abbrev pub invariant-lines : goal.invariant-lines
invariant-lines l = length l.left ≤ length l.bytes

abbrev pub decreases-lines : goal.decreases-lines
decreases-lines l = l.count - l.passed
