-- The lines that were passed have been copied.
use Rattle.std.proofs.Common.{◌≡◌}
use Rattle.ed_base.specs.Buffer.{texts}
use Rattle.ed_base.specs.Parts.{block}
use Rattle.line_store.specs.Cut.{all_lines}
use Rattle.line_store.proofs.cut_lines.CutLines.copy_block.Given as goal

abbrev pub invariant-loop-i : goal.invariant-loop-i
invariant-loop-i g l = texts l.copies.items ≡ texts (block l.from l.i (all_lines l.fn.self))
