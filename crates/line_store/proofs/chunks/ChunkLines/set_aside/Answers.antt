-- The lines stay, since the chunk has none.
use Rattle.std.proofs.Common.{◌≡◌, ◌<◌, ◌∙◌, [], ◌∷◌, ap, sym, length, length-append, get_or, arith}
use Rattle.std.proofs.lemmas.List.Edits.{length-remove}
use Rattle.line_store.specs.Chunks.{joined}
use Rattle.line_store.proofs.Joined.{joined-aside}
use Rattle.line_store.proofs.Offsets.{known-counted}
use Rattle.line_store.proofs.chunks.ChunkLines.set_aside.Goals as goal

pub count-requires-clause-count : goal.count-requires-clause-count
count-requires-clause-count c =
    let e = c.self.inside in
    let chunks = e.chunks.items in
    let k = c.args.k in
    let within : k < length chunks = omega (arith, c.requires.chunk, ap (λ v. length v.chunks) c.self.view_is) in
    let same : joined c.push_reserved.new.self.items ≡ joined chunks =
    joined-aside chunks c.remove-empty.new.self.items c.push_reserved.new.self.items k c.remove-empty.result within
    c.remove-empty.ensures.items c.push_reserved.ensures.items c.remove-empty.ensures.value
    (ap (λ v. length (get_or v.chunks k [])) c.self.view_is ∙ c.requires.empty) in
    omega (arith, ap length same, c.self.invariant.all)

pub invariant_of-self : goal.invariant_of-self
invariant_of-self c =
    let e = c.self.inside in
    let chunks = e.chunks.items in
    let k = c.args.k in
    let within : k < length chunks = omega (arith, c.requires.chunk, ap (λ v. length v.chunks) c.self.view_is) in
    let same : joined c.push_reserved.new.self.items ≡ joined chunks =
    joined-aside chunks c.remove-empty.new.self.items c.push_reserved.new.self.items k c.remove-empty.result within
    c.remove-empty.ensures.items c.push_reserved.ensures.items c.remove-empty.ensures.value
    (ap (λ v. length (get_or v.chunks k [])) c.self.view_is ∙ c.requires.empty) in
    known-counted e.count c.count.new.self c.push_reserved.new.self.items (c.self.invariant.all ∙ sym (ap length same))
    (omega (arith, c.count.ensures.room, c.self.invariant.room, ap length c.remove-empty.ensures.items, length-remove chunks k within, ap length c.push_reserved.ensures.items, length-append c.remove-empty.new.self.items (c.remove-empty.result ∷ [])))
    c.count.ensures.length c.count.ensures.starts

pub returns-clause-unchanged : goal.returns-clause-unchanged
returns-clause-unchanged c =
    let e = c.self.inside in
    let chunks = e.chunks.items in
    let k = c.args.k in
    let within : k < length chunks = omega (arith, c.requires.chunk, ap (λ v. length v.chunks) c.self.view_is) in
    let same : joined c.push_reserved.new.self.items ≡ joined chunks =
    joined-aside chunks c.remove-empty.new.self.items c.push_reserved.new.self.items k c.remove-empty.result within
    c.remove-empty.ensures.items c.push_reserved.ensures.items c.remove-empty.ensures.value
    (ap (λ v. length (get_or v.chunks k [])) c.self.view_is ∙ c.requires.empty) in
    same ∙ ap (λ v. joined v.chunks) c.self.view_is
