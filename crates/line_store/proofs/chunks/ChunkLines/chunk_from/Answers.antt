-- The next chunk begins after the last line of this one.
use Rattle.std.proofs.Common.{◌≡◌, ◌∙◌, [], ap, length, get_or, arith}
use Rattle.std.proofs.lemmas.List.{get_or_default}
use Rattle.line_store.proofs.Joined.{before-next}
use Rattle.line_store.proofs.chunks.ChunkLines.chunk_from.Goals as goal

pub returns-then-at-start : goal.returns-then-at-start
returns-then-at-start c =
    let inside = c.self.inside.chunks.items in
    let now = c.args.self.now.chunks in
    let k = c.chunk_of-k.result in
    let s = c.chunk_of-k.ensures.chunk in
    let read : c.index.result.now ≡ get_or now k [] =
    c.index.ensures ∙ get_or_default inside k c.index.result.now [] (omega (arith, s.chunk, ap (λ v. length v.chunks) c.self.view_is))
    ∙ ap (λ v. get_or v.chunks k []) c.self.view_is in
    record { value = (omega (arith, s.chunk), omega (arith, before-next k now s.chunk, s.low, s.high, ap length read, c.start.ensures.value)) }
