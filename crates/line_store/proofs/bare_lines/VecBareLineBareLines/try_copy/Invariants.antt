-- The lines that were passed have been copied.
use Rattle.std.proofs.Common.{◌≡◌, take}
use Rattle.line_store.proofs.bare_lines.VecBareLineBareLines.try_copy.Given as goal

abbrev pub invariant-loop-line : goal.invariant-loop-line
invariant-loop-line l = l.copy.items ≡ take l.line-index l.line-items
