-- The chunks that were passed have been copied.
use Rattle.std.proofs.Common.{◌≡◌, take}
use Rattle.line_store.proofs.chunks.ChunkLinesBareLines.try_copy.Given as goal

abbrev pub invariant-loop-chunk : goal.invariant-loop-chunk
invariant-loop-chunk l = l.chunks.items ≡ take l.chunk-index l.chunk-items
