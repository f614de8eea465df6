-- The lines that have gone stand before the others.
use Rattle.std.proofs.Common.{◌≡◌, ◌+◌, ◌≤◌, ◌++◌, length}
use Rattle.std.specs.Prelude.{vec_capacity}
use Rattle.line_store.proofs.chunk.Chunk.unload.Given as goal

abbrev pub invariant-moves : goal.invariant-moves
invariant-moves l = record {
  same : l.lines.items ++ l.ring.items ≡ l.fn.lines.items ++ l.fn.self;
  room : length l.lines.items + length l.ring.items ≤ vec_capacity l.lines;
  capacity : vec_capacity l.lines ≡ vec_capacity l.fn.lines;
}

abbrev pub decreases-moves : goal.decreases-moves
decreases-moves l = length l.ring.items
