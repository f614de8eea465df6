-- The lines so far, and those that are still to come, are all.
use Rattle.std.proofs.Common.{◌≡◌, ◌++◌, map, length}
use Rattle.ed_base.specs.Lines.{lines_of}
use Rattle.ed_base.specs.Buffer.{plain_line}
use Rattle.line_store.proofs.block.cut_lines.Given as goal

abbrev pub invariant-loop-lines : goal.invariant-loop-lines
invariant-loop-lines l = l.lines.items ++ map plain_line (lines_of l.rest) ≡ map plain_line (lines_of l.fn.file)

abbrev pub decreases-loop-lines : goal.decreases-loop-lines
decreases-loop-lines l = length (lines_of l.rest)
