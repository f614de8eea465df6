-- Each later chunk has a line less before it.
use Rattle.std.proofs.Common.{◌≡◌, ◌+◌, ◌-◌, ◌<◌, ◌∙◌, [], ap, sym, length, get_or, remove, arith}
use Rattle.std.proofs.lemmas.List.{get_or_default}
use Rattle.std.proofs.lemmas.List.Edits.{length-remove}
use Rattle.line_store.proofs.Joined.{before-within}
use Rattle.line_store.proofs.Offsets.{start-more, known-moved}
use Rattle.line_store.proofs.chunks.ChunkLines.take_in.Goals as goal

pub lower-requires-clause-more : goal.lower-requires-clause-more
lower-requires-clause-more c = λ m a b.
    let e = c.self.inside in
    start-more c.args.k m e.count e.starts e.chunks.items c.self.invariant a b
    (omega (arith, c.requires.place, ap (λ v. length (get_or v.chunks c.args.k [])) c.self.view_is))

pub overflow_sub-self : goal.overflow_sub-self
overflow_sub-self c =
    let e = c.self.inside in
    let chunks = e.chunks.items in
    let k = c.args.k in
    let within : k < length chunks = omega (arith, c.requires.chunk, ap (λ v. length v.chunks) c.self.view_is) in
    omega (
      arith,
      c.requires.place,
      c.self.invariant.all,
      before-within k chunks within,
      ap (λ v. length (get_or v.chunks k [])) c.self.view_is,
    )

pub invariant_of-self : goal.invariant_of-self
invariant_of-self c =
    let e = c.self.inside in
    let chunks = e.chunks.items in
    let k = c.args.k in
    let place = c.args.place in
    let within : k < length chunks = omega (arith, c.requires.chunk, ap (λ v. length v.chunks) c.self.view_is) in
    let inner : place < length (get_or chunks k []) =
    omega (arith, c.requires.place, ap (λ v. length (get_or v.chunks k [])) c.self.view_is) in
    let chunk : c.index_mut.result.now ≡ get_or chunks k [] = c.index_mut.ensures.value
    ∙ get_or_default chunks k c.index_mut.result.now [] within in
    let is = c.remove-line.ensures.removed ∙ ap (λ t. remove t place) chunk in
    let lowered = c.lower.ensures.lowered in
    let size : length c.remove-line.new.self + 1 ≡ length (get_or chunks k []) =
    omega (arith, ap length is, length-remove (get_or chunks k []) place inner) in
    known-moved k e.count (e.count - 1) e.starts c.lower.new.self chunks c.remove-line.new.self c.self.invariant within
    (omega (arith, c.self.invariant.all, before-within k chunks within)) (sym lowered.long) c.lower.ensures.room
    (λ m h l. omega (arith, lowered.between m (omega arith) l)) (λ m h. sym (lowered.below m (omega arith)))
