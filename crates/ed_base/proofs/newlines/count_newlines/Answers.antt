-- The newlines of a front and of what follows it are those of all.
use Rattle.std.proofs.Common.{◌+◌, ◌∙◌, ap, sym, arith, count_by, cond, drop, length, take, take-add}
use Rattle.std.proofs.lemmas.List.{take-append-drop, take_rest}
use Rattle.std.proofs.lemmas.List.Sums.{sum_by-append}
use Rattle.memchr.specs.Find.{is_byte}
use Rattle.memchr.proofs.lemmas.CallerLemmas.{length-places}
use Rattle.ed_base.specs.Lines.{newline}
use Rattle.ed_base.proofs.newlines.count_newlines.Goals as goal

pub steps-preserved : goal.steps-preserved
steps-preserved c =
    let bytes = c.args.bytes.now in
    let place = c.steps.place in
    let front = take place bytes in
    let next = take 64 (drop place bytes) in
    record {
      counted =
          ap (λ n. n + c.block_newlines-count.result) c.steps.invariant.counted
          ∙ ap (λ n. count_by (is_byte newline) front + n) c.block_newlines-count.ensures.value
          ∙ sym (sum_by-append (λ b. cond (is_byte newline b) 1 0) front next)
          ∙ ap (count_by (is_byte newline)) (sym (take-add place 64 bytes));
      few = omega (arith, c.steps.invariant.few, c.block_newlines-count.ensures.bound);
      place = omega arith;
    }

pub returns-clause-value : goal.returns-clause-value
returns-clause-value c =
    let bytes = c.args.bytes.now in
    let place = c.steps.place in
    let front = take place bytes in
    let rest = drop place bytes in
    ap (λ n. n + c.count.result) c.steps.invariant.counted
    ∙ ap (λ n. count_by (is_byte newline) front + n)
    (c.count.ensures ∙ ap length c.memchr_iter.ensures.value ∙ length-places (is_byte newline) _
    ∙ ap (count_by (is_byte newline)) (take_rest bytes place))
    ∙ sym (sum_by-append (λ b. cond (is_byte newline b) 1 0) front rest)
    ∙ ap (count_by (is_byte newline)) (take-append-drop place bytes)
