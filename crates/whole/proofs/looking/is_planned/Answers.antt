use Rattle.std.proofs.Common.{rules, ◌≡◌, ◌∙◌, ◌<◌, true, nat_eq, length, get_or, sym}
use Rattle.std.specs.Prelude.{string_bytes}
use Rattle.std.specs.Cmp.Lexicographic.{pointwise}
use Rattle.whole.proofs.Drafted.{planned-here}
use Rattle.whole.proofs.looking.is_planned.Goals as goal

pub returns-then-eq : goal.returns-then-eq
returns-then-eq c =
    let all = c.args.planned.now in
    let equal : pointwise nat_eq (string_bytes c.one-item.result.path) c.args.path.now ≡ true = search rules in
    let within : c.planned.one-index < length all = search rules in
    let is : c.one-item.result ≡ get_or all c.planned.one-index c.one-item.result = search rules in
    record { value = sym (c.planned.invariant ∙ planned-here _ _ c.planned.one-index c.one-item.result within is equal) }
