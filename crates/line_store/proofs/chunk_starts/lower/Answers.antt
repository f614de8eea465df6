-- Each number is at least one.
use Rattle.std.proofs.Common.{◌≡◌, ◌<◌, ◌∙◌, sym, length, get_or, arith}
use Rattle.std.proofs.lemmas.List.{get_or_default}
use Rattle.line_store.proofs.chunk_starts.lower.Goals as goal

pub overflow_sub-index_mut : goal.overflow_sub-index_mut
overflow_sub-index_mut c =
    let i = c.loop-k.invariant in
    let now = c.loop-k.numbers.items in
    let k = c.loop-k.k in
    let within : k < length now = omega arith in
    let read : c.index_mut.result.now ≡ get_or now k 0 = c.index_mut.ensures.value
    ∙ get_or_default now k c.index_mut.result.now 0 within in
    omega (arith, read, i.above k (omega arith), c.requires.some k (omega arith) (omega arith))

pub returns-clause-lowered : goal.returns-clause-lowered
returns-clause-lowered c =
    let i = c.loop-k.invariant in
    record {
      long = sym i.long;
      between = λ m h l. sym (i.lowered m h (omega arith));
      below = λ m h. sym (i.below m h);
      above = λ m h. sym (i.above m (omega arith));
    }
