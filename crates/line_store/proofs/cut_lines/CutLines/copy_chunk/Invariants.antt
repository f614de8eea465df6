-- The lines that were passed have been copied.
use Rattle.std.proofs.Common.{◌≡◌, map}
use Rattle.ed_base.specs.Buffer.{plain_line, texts}
use Rattle.ed_base.specs.Parts.{block}
use Rattle.line_store.specs.Cut.{all_lines}
use Rattle.line_store.proofs.cut_lines.CutLines.copy_chunk.Given as goal

abbrev pub invariant-loop-i : goal.invariant-loop-i
invariant-loop-i g l = l.chunk ≡ map plain_line (texts (block l.from l.i (all_lines l.fn.self)))
