use Rattle.std.proofs.Common.{rules, ◌≡◌, ◌∙◌, ◌<◌, true, nat_eq, length, get_or, sym}
use Rattle.std.specs.Prelude.{string_bytes}
use Rattle.std.specs.Cmp.Lexicographic.{pointwise}
use Rattle.whole.proofs.Drafted.{draft-here}
use Rattle.whole.proofs.made_drafts.find.Goals as goal

pub returns-then-eq : goal.returns-then-eq
returns-then-eq c =
    let drafts = c.args.drafts.now in
    let equal : pointwise nat_eq (string_bytes c.draft-item.result.path) c.args.path.now ≡ true = search rules in
    let within : c.drafts.draft-index < length drafts = search rules in
    let is : c.draft-item.result ≡ get_or drafts c.drafts.draft-index c.draft-item.result = search rules in
    record { value = sym (c.drafts.invariant ∙ draft-here _ _ c.drafts.draft-index c.draft-item.result within is equal) }
