use Rattle.std.proofs.Common.{◌≡◌, ◌∙◌, ℕ, List, sym, subst}
use Rattle.ed_syntax.specs.PublicScript.{script_value}
use Rattle.hints.specs.Passing.{IsVouched}
use Rattle.hints.specs.Widest.{start_with, beside}
use Rattle.hints.proofs.Enough.{enough-all}
use Rattle.hints.proofs.widest.widest_start.Goals as goal

pub widest_of-requires : goal.widest_of-requires
widest_of-requires c =
    let given = c.args.given.now in
    let script = script_value c.in_ok-read.read in
    record {
      enough = enough-all script given c.fullest_min-min.result c.members-2.result.now (c.members-2.ensures.value ∙ c.in_ok-patterns.ensures.value)
          c.fullest_min-min.ensures.allowed c.fullest_min-min.ensures.given_least
          (subst (λ (l : List (List ℕ)). IsVouched script (start_with given c.fullest_min-min.result (beside given l)))
          (c.members.ensures.value ∙ sym c.members-2.ensures.value)
          (c.in_ok-is_vouched_beside.ensures.exact.0 c.if-not-branch.false));
    }
