use Rattle.std.proofs.Common.{◌≡◌, ◌<◌, pos, neg_ℤ, ◌+ℤ◌, ◌-ℤ◌, FitsSigned, ◌∷◌, length, get_or, sym, ap, ◌∙◌, arith, rules}
use Rattle.std.proofs.lemmas.Int.{ints}
use mir.Val.{to_z, of_z}
use mir.Syntax.{w128}
use Rattle.ed_syntax.specs.reading.Tokens.{offsets}
use Rattle.ed_syntax.proofs.reader.Fronts.{after_first, first_and_others, no_first}
use Rattle.ed_syntax.proofs.reader.OffsetSteps.{none_summed, plus_first, minus_first, none_left}
use Rattle.ed_syntax.proofs.offsets.offsets.Goals as goal
use Rattle.ed_syntax.proofs.offsets.offsets.Goals.{in_default, in_default-2}

pub offsets-init : goal.offsets-init
offsets-init c =
    let bytes = c.args.bytes.now in record {
      left = (length bytes, omega arith, none_summed (offsets (length bytes) bytes));
      shorter = omega arith;
      low = omega (arith, ints);
      high = omega (arith, ints);
    }

pub offsets-preserved-then-sign-eq43 : goal.offsets-preserved-then-sign-eq43
offsets-preserved-then-sign-eq43 c =
    let left = c.after_blanks.result.now in
    let rest = after_first left in
    let is : left ≡ get_or left 0 0 ∷ rest = first_and_others left c.in-43.len_at_least in
    let lines = c.in_ok-lines in
    let sum = to_z w128 c.offsets.sum-bits in
    let given = to_z w128 (of_z w128 c.from-sum.result) in
    let more = to_z w128 (of_z w128 (sum +ℤ given)) in
    let all = offsets (length c.args.bytes.now) c.args.bytes.now in
    let is_given : given ≡ pos lines.lines = omega (arith, ints) in
    let fits : FitsSigned w128 (sum +ℤ given) = omega (arith, ints, is_given, lines.ensures.few, c.offsets.invariant.low, c.offsets.invariant.high) in
    let total : more ≡ sum +ℤ pos lines.lines = omega (arith, ints, fits, is_given) in
    let fewer : length lines.rest.now < length c.offsets.left.now = omega (arith, ap length is, lines.ensures.shorter, c.after_blanks.ensures.shorter) in record {
      left = plus_first c.offsets.left.now rest lines.rest.now sum more lines.lines all lines.ensures.value fewer (sym c.after_blanks.ensures.value ∙ is ∙ ap (λ b. b ∷ rest) c.if-sign-eq43.true) total c.offsets.invariant.left;
      shorter = omega (arith, fewer, c.offsets.invariant.shorter);
      low = omega (arith, ints, total, fewer, lines.ensures.few, c.offsets.invariant.low);
      high = omega (arith, ints, total, fewer, lines.ensures.few, c.offsets.invariant.high);
    }

pub offsets-preserved : goal.offsets-preserved
offsets-preserved c =
    let left = c.after_blanks.result.now in
    let rest = after_first left in
    let is : left ≡ get_or left 0 0 ∷ rest = first_and_others left c.in-43.len_at_least in
    let sign : get_or left 0 0 ≡ 45 = omega arith in
    let lines = c.in_ok-lines in
    let sum = to_z w128 c.offsets.sum-bits in
    let given = to_z w128 (of_z w128 c.from-sum-else-sign-eq43.result) in
    let more = to_z w128 (of_z w128 (sum -ℤ given)) in
    let all = offsets (length c.args.bytes.now) c.args.bytes.now in
    let is_given : given ≡ pos lines.lines = omega (arith, ints) in
    let fits : FitsSigned w128 (sum -ℤ given) = omega (arith, ints, is_given, lines.ensures.few, c.offsets.invariant.low, c.offsets.invariant.high) in
    let total : more ≡ sum +ℤ neg_ℤ (pos lines.lines) = omega (arith, ints, fits, is_given) in
    let fewer : length lines.rest.now < length c.offsets.left.now = omega (arith, ap length is, lines.ensures.shorter, c.after_blanks.ensures.shorter) in record {
      left = minus_first c.offsets.left.now rest lines.rest.now sum more lines.lines all lines.ensures.value fewer (sym c.after_blanks.ensures.value ∙ is ∙ ap (λ b. b ∷ rest) sign) total c.offsets.invariant.left;
      shorter = omega (arith, fewer, c.offsets.invariant.shorter);
      low = omega (arith, ints, total, fewer, lines.ensures.few, c.offsets.invariant.low);
      high = omega (arith, ints, total, fewer, lines.ensures.few, c.offsets.invariant.high);
    }

pub returns : goal.returns
returns c =
    let next = c.after_blanks.result.now in
    let whole = none_left c.offsets.left.now next (to_z w128 c.offsets.sum-bits) (offsets (length c.args.bytes.now) c.args.bytes.now) (sym c.after_blanks.ensures.value) in record {
      value = elim c.if-after_blanks-lt1.branch [
        | in_default w ↦
            let none : get_or next 0 0 ≡ 0 = no_first next w.in_default.len_below in
            whole (omega arith) (omega arith) c.offsets.invariant.left
        | in_default-2 w ↦ whole (search rules) (search rules) c.offsets.invariant.left
      ];
    }
