-- The chunks that were passed have been copied.
use Rattle.std.proofs.Common.{◌≡◌, take}
use Rattle.line_store.proofs.block.copy_chunks.Given as goal

abbrev pub invariant-loop-chunk : goal.invariant-loop-chunk
invariant-loop-chunk l = l.copies.items ≡ take l.chunk-index l.chunk-items
