use Rattle.std.proofs.Common.{◌<◌, get_or, ap, ◌∙◌, arith}
use Rattle.std.proofs.lemmas.List.{get_or-take}
use Rattle.std.specs.List.{prefix_len}
use Rattle.std.proofs.lemmas.List.Sums.{prefix_len-le-length, prefix_len_passes}
use Rattle.ed_syntax.specs.spelling.Characters.{is_digit}
use Rattle.ed_syntax.proofs.reader.FrontLemmas.{number-here, no_number}
use Rattle.ed_syntax.proofs.tokens.number.Goals as goal
use Rattle.ed_syntax.proofs.tokens.number.Goals.{then-len-eq0-via-then-len-eq0, then-len-eq0-via-else-len-eq0+then-len-gt9}

pub split_at-requires : goal.split_at-requires
split_at-requires c = omega (arith, prefix_len-le-length is_digit c.args.bytes.now)

-- each of the digits in front is one
pub value_of-requires-clause-digits : goal.value_of-requires-clause-digits
value_of-requires-clause-digits c = λ k d within.
    let bytes = c.args.bytes.now in
    let len = c.digits_len-len.result in
    let short : k < len = omega (arith, c.split_at.ensures.front_len) in
    let early : k < prefix_len is_digit bytes = omega (arith, c.digits_len-len.ensures.value) in
    ap (λ digits. is_digit (get_or digits k d)) c.split_at.ensures.front ∙ ap is_digit (get_or-take len bytes k d short) ∙ prefix_len_passes is_digit bytes k d early

pub returns-clause-spelled : goal.returns-clause-spelled
returns-clause-spelled c =
    number-here c.args.bytes.now c.split_at.result.0.now c.split_at.result.1.now c.digits_len-len.result c.value_of.result
    c.digits_len-len.ensures.value (omega arith) (omega arith) c.split_at.ensures.front c.split_at.ensures.back c.value_of.ensures.value

pub returns-then-len-eq0-clause-spelled : goal.returns-then-len-eq0-clause-spelled
returns-then-len-eq0-clause-spelled c =
    no_number c.args.bytes.now c.digits_len-len.result c.digits_len-len.ensures.value (λ some few.
    elim c.then-len-eq0.branch [ then-len-eq0-via-then-len-eq0 w ↦ omega arith | then-len-eq0-via-else-len-eq0+then-len-gt9 w ↦ omega arith ])
