-- The chunks that were added are empty.
use Rattle.std.proofs.Common.{◌≡◌, ◌-◌, ◌≤◌, length}
use Rattle.line_store.specs.Chunks.{joined}
use Rattle.line_store.proofs.chunk_room.add_chunks.Given as goal

abbrev pub invariant-loop-chunks : goal.invariant-loop-chunks
invariant-loop-chunks l = record {
  no_fewer : length l.fn.chunks.items ≤ length l.chunks.items;
  no_more : length l.chunks.items ≤ l.count;
  same : joined l.chunks.items ≡ joined l.fn.chunks.items;
}

abbrev pub decreases-loop-chunks : goal.decreases-loop-chunks
decreases-loop-chunks l = l.count - length l.chunks.items
