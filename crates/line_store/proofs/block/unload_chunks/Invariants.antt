-- The lines of the chunks that were passed.
use Rattle.std.proofs.Common.{◌≡◌, ◌≤◌, length}
use Rattle.std.specs.Prelude.{vec_capacity}
use Rattle.line_store.specs.Chunks.{joined}
use Rattle.line_store.proofs.block.unload_chunks.Given as goal

abbrev pub invariant-loop-chunk : goal.invariant-loop-chunk
invariant-loop-chunk l = record {
  unloaded : l.lines.items ≡ joined l.yielded;
  room : length (joined l.fn.chunks.items) ≤ vec_capacity l.lines;
}
