-- The lines that were passed, and those that are left.
use Rattle.std.proofs.Common.{◌≡◌, ◌+◌, length}
use Rattle.ed_base.specs.Lines.{lines_of}
use Rattle.line_store.proofs.shared.FileLines.fill_chunk.Given as goal

abbrev pub invariant-loop-i : goal.invariant-loop-i
invariant-loop-i l = length (lines_of l.fn.self) ≡ l._i + length (lines_of l.rest)
