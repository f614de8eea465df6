use Rattle.std.proofs.Common.{◌∙◌, refl, arith}
use Rattle.ed_session.proofs.Taken.{up-to-more, up-to-part}
use Rattle.ed_session.proofs.sink.give_pieces.Goals as goal

pub chunks-preserved : goal.chunks-preserved
chunks-preserved g c =
    let next = rw c.in-Some.is at c.next_chunk.follows.holds-at-none in
    let gave = c.if-not-give.ensures.all refl in
    record {
      taken = up-to-more _ _ _ _ _ _ _ c.chunks.invariant.taken next gave.0;
      failures = gave.1 ∙ c.chunks.invariant.failures;
    }

pub returns-then-not-give-clause-part : goal.returns-then-not-give-clause-part
returns-then-not-give-clause-part g c = λ _.
    let next = rw c.in-Some.is at c.next_chunk.follows.holds-at-none in
    let gave = c.if-not-give.ensures.part refl in
    (up-to-part _ _ _ _ _ _ _ c.chunks.invariant.taken next gave.0, omega (arith, gave.1, c.chunks.invariant.failures))
