-- A chunk more, without lines.
use Rattle.std.proofs.Common.{◌≡◌, ◌∙◌, [], ◌∷◌, ◌++◌, ap, refl, length, length-append, arith}
use Rattle.line_store.specs.Chunks.{joined}
use Rattle.line_store.proofs.Joined.{joined-empty}
use Rattle.line_store.proofs.chunk_room.add_chunks.Goals as goal

pub loop-chunks-preserved : goal.loop-chunks-preserved
loop-chunks-preserved c =
    let i = c.loop-chunks.invariant in
    let now = c.loop-chunks.chunks.items in
    let is : c.push.new.self.items ≡ now ++ [] ∷ [] = c.in_ok-push.ensures.items ∙ ap (λ t. now ++ t ∷ []) c.in_ok-chunk.ensures.value in
    record {
      no_fewer = omega (arith, i.no_fewer, ap length is, length-append now ([] ∷ []));
      no_more = omega (arith, ap length is, length-append now ([] ∷ []));
      same = ap joined is ∙ joined-empty now [] refl ∙ i.same;
    }
