-- The line stands in one of the chunks between.
use Rattle.std.proofs.Common.{◌<◌, ◌≤◌, ◌-◌, length}
use Rattle.line_store.specs.Chunks.{lines_before}
use Rattle.line_store.proofs.chunks.ChunkLines.search_chunk.Given as goal

abbrev pub invariant-halves : goal.invariant-halves
invariant-halves l = record {
  low : lines_before l.low l.self.chunks ≤ l.i;
  high : l.i < lines_before l.high l.self.chunks;
  within : l.high ≤ length l.self.chunks;
  order : l.low < l.high;
}

abbrev pub decreases-halves : goal.decreases-halves
decreases-halves l = l.high - l.low
