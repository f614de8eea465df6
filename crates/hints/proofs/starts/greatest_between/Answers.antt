use Rattle.std.proofs.Common.{◌≡◌, ◌+◌, ◌≤◌, ℕ, arith, subst}
use Rattle.ed_syntax.specs.PublicScript.{script_value}
use Rattle.ed_rules.specs.LineBounds.{most_lines}
use Rattle.hints.specs.Passing.{IsVouched, with_max}
use Rattle.hints.proofs.starts.greatest_between.Goals as goal

pub returns-clause-greatest : goal.returns-clause-greatest
returns-clause-greatest c =
    λ lt v.
    let next : c.greatest.lower + 1 ≡ c.greatest.upper = omega (arith, c.greatest-test.false, c.greatest.invariant.order) in
    let few : c.greatest.upper ≤ most_lines = omega (arith, next, lt) in
    c.greatest.invariant.refused few (subst (λ (n : ℕ). IsVouched (script_value c.args.script.now) (with_max c.args.start.now n)) next v)
