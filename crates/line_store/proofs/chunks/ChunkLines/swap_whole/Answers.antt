-- Chunks that begin at later places are later ones.
use Rattle.std.proofs.Common.{arith}
use Rattle.line_store.proofs.Taken.{in-order}
use Rattle.line_store.proofs.chunks.ChunkLines.swap_whole.Goals as goal

pub swap_chunks-requires-clause-first : goal.swap_chunks-requires-clause-first
swap_chunks-requires-clause-first c =
    in-order _ c.in-Some.first c.in-Some-chunk_from.second _ _ c.in-Some.ensures.value.1 c.in-Some-chunk_from.ensures.value.1
    c.requires.first

pub swap_chunks-requires-clause-second : goal.swap_chunks-requires-clause-second
swap_chunks-requires-clause-second c =
    in-order _ c.in-Some-chunk_from.second c.in-Some-chunk_from-2.last _ _ c.in-Some-chunk_from.ensures.value.1
    c.in-Some-chunk_from-2.ensures.value.1 c.requires.second

pub overflow_sub-second : goal.overflow_sub-second
overflow_sub-second c =
    in-order _ c.in-Some.first c.in-Some-chunk_from.second _ _ c.in-Some.ensures.value.1 c.in-Some-chunk_from.ensures.value.1
    c.requires.first

pub overflow_sub-last : goal.overflow_sub-last
overflow_sub-last c =
    omega (
      arith,
      in-order _ c.in-Some-chunk_from.second c.in-Some-chunk_from-2.last _ _ c.in-Some-chunk_from.ensures.value.1
          c.in-Some-chunk_from-2.ensures.value.1 c.requires.second,
    )
