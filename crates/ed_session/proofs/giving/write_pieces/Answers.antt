use Rattle.ed_session.proofs.Taken.{up-to-more}
use Rattle.ed_session.proofs.giving.write_pieces.Goals as goal

pub chunks-preserved : goal.chunks-preserved
chunks-preserved g c =
    let next = rw c.in-Some.is at c.next_chunk.follows.holds-at-none in
    up-to-more _ _ _ _ _ _ _ c.chunks.invariant next c.in_ok-write_all.ensures.bytes
