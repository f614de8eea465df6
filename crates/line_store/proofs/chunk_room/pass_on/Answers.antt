-- The last line of a chunk is the first of the next.
use Rattle.std.proofs.Common.{◌≡◌, ◌+◌, ◌-◌, ◌<◌, ◌∙◌, [], ◌∷◌, ◌++◌, ap, sym, length, length-set, get_or, get_or-set_other, set, insert, remove, arith}
use Rattle.std.proofs.lemmas.List.{get_or_default}
use Rattle.line_store.specs.Chunks.{joined}
use Rattle.line_store.proofs.Joined.{joined-pass, rest-and-last}
use Rattle.line_store.proofs.chunk_room.pass_on.Goals as goal

pub returns-clause-joined : goal.returns-clause-joined
returns-clause-joined c =
    let now = c.args.chunks.now.items in
    let k = c.args.k in
    let x = c.remove-last.result in
    let rest = c.remove-last.new.self in
    let n = c.len-lines.result - 1 in
    let within : k < length now = omega (arith, c.requires) in
    let read : c.index.result.now ≡ get_or now k [] = c.index.ensures ∙ get_or_default now k c.index.result.now [] within in
    let chunk : c.index_mut.result.now ≡ get_or now k [] = c.index_mut.ensures.value ∙ get_or_default now k c.index_mut.result.now [] within in
    let is : get_or now k [] ≡ rest ++ x ∷ [] =
    rest-and-last (get_or now k []) n x (omega (arith, ap length read)) (c.remove-last.ensures.value ∙ ap (λ t. get_or t n x) chunk)
    ∙ ap (λ t. t ++ x ∷ []) (sym (c.remove-last.ensures.removed ∙ ap (λ t. remove t n) chunk)) in
    let long : length (set now k rest) ≡ length now = length-set now k rest in
    let next : c.index_mut-2.result.now ≡ get_or now (k + 1) [] =
    c.index_mut-2.ensures.value ∙ get_or_default (set now k rest) (k + 1) c.index_mut-2.result.now [] (omega arith)
    ∙ get_or-set_other now k (k + 1) rest [] (λ e. omega arith) in
    ap (λ t. joined (set (set now k rest) (k + 1) t)) (c.insert.ensures.inserted ∙ ap (λ t. insert t 0 x) next)
    ∙ joined-pass now k x rest (omega arith) is
