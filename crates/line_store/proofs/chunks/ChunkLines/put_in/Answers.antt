-- Each later chunk has a line more before it.
use Rattle.std.proofs.Common.{◌≡◌, ◌+◌, ◌<◌, ◌∙◌, [], ap, length, get_or, insert, arith}
use Rattle.std.proofs.lemmas.List.{get_or_default}
use Rattle.std.proofs.lemmas.List.Edits.{length-insert}
use Rattle.line_store.specs.Chunks.{joined}
use Rattle.line_store.proofs.Offsets.{start-fits, known-moved}
use Rattle.line_store.proofs.chunks.ChunkLines.put_in.Goals as goal

pub raise-requires-clause-fits : goal.raise-requires-clause-fits
raise-requires-clause-fits c = λ m a b.
    let e = c.self.inside in
    start-fits m e.count e.starts e.chunks.items c.self.invariant b
    (omega (arith, c.requires.count, ap (λ v. length (joined v.chunks)) c.self.view_is))

pub invariant_of-self : goal.invariant_of-self
invariant_of-self c =
    let e = c.self.inside in
    let chunks = e.chunks.items in
    let k = c.args.k in
    let place = c.args.place in
    let within : k < length chunks = omega (arith, c.requires.chunk, ap (λ v. length v.chunks) c.self.view_is) in
    let chunk : c.index_mut.result.now ≡ get_or chunks k [] = c.index_mut.ensures.value
    ∙ get_or_default chunks k c.index_mut.result.now [] within in
    let is = c.insert.ensures.inserted ∙ ap (λ t. insert t place c.args.line) chunk in
    let raised = c.raise.ensures.raised in
    let size : length c.insert.new.self ≡ length (get_or chunks k []) + 1 =
    ap length is ∙ length-insert (get_or chunks k []) place c.args.line
    (omega (arith, c.requires.place, ap (λ v. length (get_or v.chunks k [])) c.self.view_is)) in
    known-moved k e.count (e.count + 1) e.starts c.raise.new.self chunks c.insert.new.self c.self.invariant within (omega arith) raised.long
    c.raise.ensures.room
    (λ m h l. omega (arith, raised.between m (omega arith) l)) (λ m h. raised.below m (omega arith))
