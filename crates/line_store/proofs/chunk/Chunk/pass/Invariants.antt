-- The lines that have gone stand before the others.
use Rattle.std.proofs.Common.{◌≡◌, ◌+◌, ◌≤◌, ◌++◌, length}
use Rattle.line_store.specs.Chunks.{full}
use Rattle.line_store.proofs.chunk.Chunk.pass.Given as goal

abbrev pub invariant-moves : goal.invariant-moves
invariant-moves l = record {
  same : l.self ++ l.other ≡ l.fn.self ++ l.fn.other;
  low : l.at ≤ length l.self;
  room : length l.self + length l.other ≤ full;
}

abbrev pub decreases-moves : goal.decreases-moves
decreases-moves l = length l.self
