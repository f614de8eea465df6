use Rattle.std.proofs.Common.{◌≡◌, ℕ, ap, ◌∙◌, arith}
use Rattle.ed_syntax.specs.PublicScript.{script_value}
use Rattle.cert_check.specs.checker.Beginning.{count_unnamed}
use Rattle.cert_check.proofs.checker.starting.letters_left.Goals as goal

pub returns-clause-value : goal.returns-clause-value
returns-clause-value c =
    let inside = c.loop-place.auto.place-end in
    let over = c.loop-place-test.false in
    let all : c.loop-place.place ≡ 26 = omega arith in
    c.loop-place.invariant.counted ∙ ap (λ (n : ℕ). count_unnamed n (script_value c.args.script.now)) all
