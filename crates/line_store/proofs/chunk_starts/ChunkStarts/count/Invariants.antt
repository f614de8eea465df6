-- The starts of the chunks that were passed are known.
use Rattle.std.proofs.Common.{◌≡◌, ℕ, ◌<◌, length, get_or}
use Rattle.line_store.specs.Chunks.{lines_before}
use Rattle.line_store.proofs.chunk_starts.ChunkStarts.count.Given as goal

abbrev pub invariant-loop-k : goal.invariant-loop-k
invariant-loop-k l = record {
  long : length l.self.starts ≡ l.k;
  room : l.self.room ≡ l.fn.self.room;
  start : l.before ≡ lines_before l.k l.chunks.items;
  starts : (m : ℕ) → m < l.k → get_or l.self.starts m 0 ≡ lines_before m l.chunks.items;
}
