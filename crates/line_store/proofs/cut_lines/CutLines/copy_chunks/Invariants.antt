-- The lines that were passed are in chunks.
use Rattle.std.proofs.Common.{◌≡◌, ◌≤◌, ◌-◌, map}
use Rattle.ed_base.specs.Buffer.{plain_line, texts}
use Rattle.ed_base.specs.Parts.{block}
use Rattle.line_store.specs.Chunks.{joined}
use Rattle.line_store.specs.Cut.{all_lines}
use Rattle.line_store.proofs.cut_lines.CutLines.copy_chunks.Given as goal

abbrev pub invariant-chunks : goal.invariant-chunks
invariant-chunks g l = record {
  low : l.from ≤ l.next;
  high : l.next ≤ l.to;
  copied : joined l.chunks.items ≡ map plain_line (texts (block l.from l.next (all_lines l.fn.self)));
}

abbrev pub decreases-chunks : goal.decreases-chunks
decreases-chunks g l = l.to - l.next
