-- A line stands in its chunk.
use Rattle.std.proofs.Common.{◌≡◌, ◌-◌, ◌<◌, ◌∙◌, [], ap, sym, length, get_or, arith}
use Rattle.std.proofs.lemmas.List.{get_or_default}
use Rattle.line_store.proofs.Joined.{get_or-joined}
use Rattle.line_store.proofs.chunks.ChunkLines.line.Goals as goal

pub returns : goal.returns
returns c =
    let v = c.args.self.now.chunks in
    let i = c.args.i in
    let k = c.chunk_of-k.result in
    let s = c.chunk_of-k.ensures.chunk in
    let line = c.line.result.now in
    let place = i - c.start.result in
    let within : k < length c.self.inside.chunks.items = omega (arith, s.chunk, ap (λ v. length v.chunks) c.self.view_is) in
    let read : c.index.result.now ≡ get_or v k [] =
    c.index.ensures ∙ get_or_default c.self.inside.chunks.items k c.index.result.now [] within ∙ ap (λ v. get_or v.chunks k []) c.self.view_is in
    record {
      value = c.line.ensures.value ∙ ap (λ t. get_or t place line) read
          ∙ sym (get_or-joined v k place i line s.chunk (omega (arith, s.low, s.high, c.start.ensures.value)) (omega (arith, s.low, c.start.ensures.value)));
    }
