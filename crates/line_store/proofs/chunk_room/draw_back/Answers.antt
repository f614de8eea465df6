-- The first line of the next chunk is the last of this.
use Rattle.std.proofs.Common.{◌≡◌, ◌+◌, ◌<◌, ◌∙◌, [], ◌∷◌, ◌++◌, ap, sym, length, length-set, get_or, get_or-set_other, set, remove, arith}
use Rattle.std.proofs.lemmas.List.{get_or_default}
use Rattle.line_store.specs.Chunks.{joined}
use Rattle.line_store.proofs.Joined.{before-set_low, joined-refill, first-and-rest}
use Rattle.line_store.proofs.chunk_room.draw_back.Goals as goal

pub returns-clause-joined : goal.returns-clause-joined
returns-clause-joined c =
    let now = c.args.chunks.now.items in
    let k = c.args.k in
    let x = c.remove-first.result in
    let rest = c.remove-first.new.self in
    let within : k + 1 < length now = omega arith in
    let read : c.index.result.now ≡ get_or now (k + 1) [] = c.index.ensures ∙ get_or_default now (k + 1) c.index.result.now [] within in
    let next : c.index_mut.result.now ≡ get_or now (k + 1) [] = c.index_mut.ensures.value ∙ get_or_default now (k + 1) c.index_mut.result.now [] within in
    let is : get_or now (k + 1) [] ≡ x ∷ rest =
    first-and-rest (get_or now (k + 1) []) x (omega (arith, ap length read)) (c.remove-first.ensures.value ∙ ap (λ t. get_or t 0 x) next)
    ∙ ap (λ t. x ∷ t) (sym (c.remove-first.ensures.removed ∙ ap (λ t. remove t 0) next)) in
    let later = set now (k + 1) rest in
    let long : length later ≡ length now = length-set now (k + 1) rest in
    let chunk : c.index_mut-2.result.now ≡ get_or now k [] =
    c.index_mut-2.ensures.value ∙ get_or_default later k c.index_mut-2.result.now [] (omega arith)
    ∙ get_or-set_other now (k + 1) k rest [] (λ e. omega arith) in
    ap (λ t. joined (set later k t)) (c.push.ensures.pushed ∙ ap (λ t. t ++ x ∷ []) chunk) ∙ joined-refill now k x rest within is

pub returns-clause-before : goal.returns-clause-before
returns-clause-before c =
    let now = c.args.chunks.now.items in
    let k = c.args.k in
    let rest = c.remove-first.new.self in
    before-set_low k k (set now (k + 1) rest) c.push.new.self (omega arith) ∙ before-set_low k (k + 1) now rest (omega arith)
