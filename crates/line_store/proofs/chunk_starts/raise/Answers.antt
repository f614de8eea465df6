-- Each number can be one more.
use Rattle.std.proofs.Common.{◌≡◌, ◌<◌, ◌∙◌, length, get_or, arith}
use Rattle.std.proofs.lemmas.List.{get_or_default}
use Rattle.line_store.proofs.chunk_starts.raise.Goals as goal

pub overflow_add-index_mut : goal.overflow_add-index_mut
overflow_add-index_mut c =
    let i = c.loop-k.invariant in
    let now = c.loop-k.numbers.items in
    let k = c.loop-k.k in
    let within : k < length now = omega arith in
    let read : c.index_mut.result.now ≡ get_or now k 0 = c.index_mut.ensures.value
    ∙ get_or_default now k c.index_mut.result.now 0 within in
    omega (arith, read, i.above k (omega arith), c.requires.fits k (omega arith) (omega arith))

pub returns-clause-raised : goal.returns-clause-raised
returns-clause-raised c =
    let i = c.loop-k.invariant in
    record { long = i.long; between = λ m h l. i.raised m h (omega arith); below = i.below; above = λ m h. i.above m (omega arith) }
