-- The lines of the chunk stand before those of the next one.
use Rattle.std.proofs.Common.{◌≡◌, ◌+◌, ◌<◌, ◌∙◌, [], ◌++◌, ap, length, get_or, set, arith}
use Rattle.std.proofs.lemmas.List.{get_or_default}
use Rattle.std.proofs.lemmas.List.Edits.{length-remove, get_or-remove_above}
use Rattle.line_store.specs.Chunks.{joined}
use Rattle.line_store.proofs.Joined.{joined-merge, joined-empty}
use Rattle.line_store.proofs.chunk_room.join_chunks.Goals as goal

pub give_all-requires : goal.give_all-requires
give_all-requires c =
    let now = c.args.chunks.now.items in
    let k = c.args.k in
    let less = c.remove-first.new.self.items in
    let within : k < length now = omega (arith, c.requires.chunk) in
    let left : k < length less = omega (arith, c.requires.chunk, ap length c.remove-first.ensures.items, length-remove now k within) in
    let first : c.remove-first.result ≡ get_or now k [] = c.remove-first.ensures.value ∙ get_or_default now k c.remove-first.result [] within in
    let next : c.index_mut.result.now ≡ get_or now (k + 1) [] =
    c.index_mut.ensures.value ∙ get_or_default less k c.index_mut.result.now [] left ∙ ap (λ l. get_or l k []) c.remove-first.ensures.items
    ∙ get_or-remove_above now k [] k (omega arith) within in
    record { room = omega (arith, c.requires.room, ap length first, ap length next) }

pub returns-clause-joined : goal.returns-clause-joined
returns-clause-joined c =
    let now = c.args.chunks.now.items in
    let k = c.args.k in
    let less = c.remove-first.new.self.items in
    let within : k < length now = omega (arith, c.requires.chunk) in
    let left : k < length less = omega (arith, c.requires.chunk, ap length c.remove-first.ensures.items, length-remove now k within) in
    let first : c.remove-first.result ≡ get_or now k [] = c.remove-first.ensures.value ∙ get_or_default now k c.remove-first.result [] within in
    let next : c.index_mut.result.now ≡ get_or less k [] = c.index_mut.ensures.value ∙ get_or_default less k c.index_mut.result.now [] left in
    ap joined c.push_reserved.ensures.items
    ∙ joined-empty (set less k c.give_all.new.other) c.give_all.new.self (ap length c.give_all.ensures.empty)
    ∙ ap (λ t. joined (set less k t)) (c.give_all.ensures.given ∙ ap (λ t. t ++ c.index_mut.result.now) first ∙ ap (λ t. get_or now k [] ++ t) next)
    ∙ ap (λ l. joined (set l k (get_or now k [] ++ get_or l k []))) c.remove-first.ensures.items
    ∙ joined-merge now k c.requires.chunk
