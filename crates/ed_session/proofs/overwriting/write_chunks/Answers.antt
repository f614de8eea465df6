use Rattle.std.proofs.Common.{◌∙◌, length, length-append, ap, refl, sym, append-nil, arith}
use Rattle.ed_session.proofs.Overwritten.{on_err, up-to-more, up-to-last, up-to-front, take-within, take-beyond}
use Rattle.ed_session.proofs.overwriting.write_chunks.Goals as goal

pub returns-in_err-write_at-clause-front : goal.returns-in_err-write_at-clause-front
returns-in_err-write_at-clause-front g c =
    let next = rw c.in-Some.is at c.next_chunk.follows.holds-at-none in
    let last = take-within c.chunks.more c.chunks.chunks c.in-Some.chunk.now _ next c.if-more-chunk.true ∙ sym (append-nil _) in
    on_err _ (up-to-front _ _ _ _ _ _ _ _ _ c.chunks.invariant.so_far last c.in_err-write_at.ensures.front)

pub returns-then-more-chunk-clause-written : goal.returns-then-more-chunk-clause-written
returns-then-more-chunk-clause-written g c =
    let next = rw c.in-Some.is at c.next_chunk.follows.holds-at-none in
    let last = take-within c.chunks.more c.chunks.chunks c.in-Some.chunk.now _ next c.if-more-chunk.true in
    up-to-last _ _ _ _ _ _ _ _ c.chunks.invariant.so_far last c.in_ok-write_at.ensures.written

pub returns-in_err-write_at-2-clause-front : goal.returns-in_err-write_at-2-clause-front
returns-in_err-write_at-2-clause-front g c =
    let next = rw c.in-Some.is at c.next_chunk.follows.holds-at-none in
    let longer = c.if-more-chunk.false in
    let beyond = take-beyond c.chunks.more c.chunks.chunks c.in-Some.chunk.now _ next (omega arith) in
    on_err _ (up-to-front _ _ _ _ _ _ _ _ _ c.chunks.invariant.so_far beyond c.in_err-write_at-2.ensures.front)

pub chunks-preserved : goal.chunks-preserved
chunks-preserved g c =
    let next = rw c.in-Some.is at c.next_chunk.follows.holds-at-none in
    let longer = c.if-more-chunk.false in
    let beyond = take-beyond c.chunks.more c.chunks.chunks c.in-Some.chunk.now _ next (omega arith) in
    let sizes = ap length next ∙ length-append c.in-Some.chunk.now _ in
    record {
      so_far = up-to-more _ _ _ _ _ _ _ _ _ _ c.chunks.invariant.so_far beyond c.in_ok-write_at-2.ensures.written refl;
      enough = let e = c.chunks.invariant.enough in omega arith;
      in_range = let fits = c.chunks.invariant.in_range in omega arith;
    }
