use Rattle.std.proofs.Common.{◌∙◌, length, length-append, ap, refl, subst, arith}
use Rattle.ed_session.specs.Overwrites.{Wrote}
use Rattle.ed_session.proofs.Overwritten.{up-to-more}
use Rattle.ed_session.proofs.overwriting.has_chunks.Goals as goal

pub chunks-preserved : goal.chunks-preserved
chunks-preserved g c =
    let next = rw c.in-Some.is at c.next_chunk.follows.holds-at-none in
    let sizes = ap length next ∙ length-append c.in-Some.chunk.now _ in
    let i = c.chunks.invariant in
    let e = c.if-not-has_at.ensures in
    record {
      so_far = up-to-more _ _ _ _ _ _ _ _ _ _ i.so_far next (subst (λ s. Wrote s s c.chunks.place c.in-Some.chunk.now) i.same (e.same refl)) refl;
      same = e.unchanged ∙ i.same;
      in_range = let fits = i.in_range in omega arith;
    }
