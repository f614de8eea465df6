use Rattle.std.proofs.Common.{◌≡◌, ◌++◌, length}
use Rattle.unified_diff.specs.FullLines.{full_lines}
use Rattle.unified_diff.specs.Edits.{seen}
use Rattle.unified_diff.proofs.cutting.cut_lines.Given as goal

-- the lines that are cut, and those that are left
abbrev pub invariant-lines : goal.invariant-lines
invariant-lines l = seen l.lines.items ++ full_lines l.left ≡ full_lines l.fn.bytes

abbrev pub decreases-lines : goal.decreases-lines
decreases-lines l = length l.left
