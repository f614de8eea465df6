-- The place is where the next chunk begins.
use Rattle.std.proofs.Common.{◌≡◌, ◌+◌, ◌<◌, ◌∙◌, [], ap, length, get_or, arith}
use Rattle.std.proofs.lemmas.List.{get_or_default}
use Rattle.line_store.specs.Chunks.{lines_before, Touches}
use Rattle.line_store.proofs.Joined.{before-next}
use Rattle.line_store.proofs.chunks.ChunkLines.make_room.Goals as goal

pub returns-then-len-lt-FULL-2-clause-fits : goal.returns-then-len-lt-FULL-2-clause-fits
returns-then-len-lt-FULL-2-clause-fits c =
    let inside = c.self.inside.chunks.items in
    let now = c.add.new.self.chunks in
    let k = c.chunk_at-k.result in
    let t : Touches c.args.at k now = c.chunk_at-k.ensures.chunk in
    let long : length inside ≡ length now = ap (λ v. length v.chunks) c.self.view_is in
    let next : k + 1 < length now = omega arith in
    let read : c.index.result.now ≡ get_or now k [] =
    c.index.ensures ∙ get_or_default inside k c.index.result.now [] (omega (arith, t.chunk)) ∙ ap (λ v. get_or v.chunks k []) c.self.view_is in
    let after : c.index-then-k-len.result.now ≡ get_or now (k + 1) [] =
    c.index-then-k-len.ensures ∙ get_or_default inside (k + 1) c.index-then-k-len.result.now [] (omega arith) ∙ ap (λ v. get_or v.chunks (k + 1) []) c.self.view_is in
    let start : c.start.result ≡ lines_before k now = c.start.ensures.value in
    let begins = before-next k now t.chunk in (
      record {
        chunk = next;
        low = omega (arith, t.low, t.high, ap length read);
        high = omega (arith, t.low, t.high, ap length read);
      },
      omega (arith, ap length after),
    )
