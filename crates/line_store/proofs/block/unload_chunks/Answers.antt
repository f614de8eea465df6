-- The lines of one more chunk.
use Rattle.std.proofs.Common.{◌≡◌, ◌∷◌, ◌++◌, [], ◌∙◌, ap, sym, arith, length, take, append-nil, map-id}
use Rattle.std.proofs.lemmas.Iterator.Adapters.{YieldsList-from_vec}
use Rattle.std.proofs.lemmas.Iterator.Consumers.{YieldsList-so_far, YieldsList-turn}
use Rattle.std.proofs.lemmas.List.{get_or_default}
use Rattle.line_store.specs.Chunks.{joined}
use Rattle.line_store.proofs.Joined.{before-take, before-within, joined-append}
use Rattle.line_store.proofs.block.unload_chunks.Goals as goal

pub unload-requires : goal.unload-requires
unload-requires c =
    let all = c.args.chunks.items in
    let passed = c.loop-chunk.yielded in
    let n = length passed in
    let chunk = c.in-Some.chunk in
    let each = YieldsList-from_vec {s = c.into_iter-chunk-iterator.result} all (cc) (cc) in
    let turn =
    YieldsList-turn each passed c.loop-chunk.chunk-iterator c.loop-chunk.yielded_by c.next.result c.next.new.self chunk c.in-Some.is c.next.ensures.steps in
    let first : passed ≡ take n all = sym (map-id passed) ∙ YieldsList-so_far each passed c.loop-chunk.chunk-iterator c.loop-chunk.yielded_by in
    record {
      room = omega (
        arith,
        ap length c.loop-chunk.invariant.unloaded,
        ap (λ t. length (joined t)) first,
        before-take n all,
        before-within n all turn.0,
        ap length (turn.1 ∙ get_or_default all n chunk [] turn.0),
        c.loop-chunk.invariant.room,
      );
    }

pub loop-chunk-preserved : goal.loop-chunk-preserved
loop-chunk-preserved c =
    let passed = c.loop-chunk.yielded in
    let chunk = c.in-Some.chunk in
    record {
      unloaded = c.unload.ensures.unloaded
          ∙ ap (λ t. t ++ chunk) c.loop-chunk.invariant.unloaded
          ∙ sym (joined-append passed (chunk ∷ []) ∙ ap (λ t. joined passed ++ t) (append-nil chunk));
      room = omega (arith, c.loop-chunk.invariant.room, c.unload.ensures.capacity);
    }
