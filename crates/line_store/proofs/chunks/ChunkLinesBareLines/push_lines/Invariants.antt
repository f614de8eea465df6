-- The lines of the chunks that were passed are written, and what is next is in the chunk or at an end of it.
use Rattle.std.proofs.Common.{◌≡◌, ◌+◌, ◌-◌, ◌≤◌, ◌++◌, length}
use Rattle.ed_base.specs.Buffer.{texts}
use Rattle.ed_base.specs.Lines.{AreLines, bytes_of}
use Rattle.ed_base.specs.Parts.{block}
use Rattle.line_store.specs.Chunks.{joined, lines_before}
use Rattle.line_store.proofs.chunks.ChunkLinesBareLines.push_lines.Given as goal

abbrev pub invariant-chunks : goal.invariant-chunks
invariant-chunks l =
    let chunks = l.self.chunks in
    record {
      low : l.from ≤ l.next;
      high : l.next ≤ l.to;
      chunk : l.k ≤ length chunks;
      start : lines_before l.k chunks ≤ l.next;
      end : l.next ≤ lines_before (l.k + 1) chunks;
      bytes : l.output ≡ l.fn.output ++ bytes_of (texts (block l.from l.next (joined chunks)));
      are : AreLines (texts (block l.from l.next (joined chunks)));
    }

abbrev pub decreases-chunks : goal.decreases-chunks
decreases-chunks l = length l.self.chunks - l.k
