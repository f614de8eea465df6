-- The copies have no more lines than the chunks that were copied.
use Rattle.std.proofs.Common.{ap, length, take, arith}
use Rattle.line_store.specs.Chunks.{joined}
use Rattle.line_store.proofs.Joined.{joined-first}
use Rattle.line_store.proofs.chunks.ChunkLinesBareLines.try_copy.Goals as goal

pub count-requires-clause-count : goal.count-requires-clause-count
count-requires-clause-count c =
    let n = c.loop-chunk.chunk-index in
    omega (
      arith,
      c.self.invariant.all,
      ap (λ t. length (joined t)) c.loop-chunk.invariant,
      ap (λ t. length (joined (take n t))) c.deref-chunk-items.ensures.value,
      joined-first n c.self.inside.chunks.items,
    )
