use Rattle.std.proofs.Common.{ℕ, ◌≤◌, ◌^◌, arith}
use Rattle.std.proofs.Math.Nat.{pow-le-pow_right}
use Rattle.ed_syntax.proofs.tokens.value_of.Goals as goal

-- eight digits or fewer are below a hundred million
pow_ten : (n : ℕ) → n ≤ 8 → 10 ^ n ≤ 10 ^ 8
pow_ten n few = pow-le-pow_right {n = 10} (omega arith) few

pub overflow_mul-value : goal.overflow_mul-value
overflow_mul-value c = omega (arith, pow_ten c.digits.digit-index (omega arith))

pub overflow_add-value : goal.overflow_add-value
overflow_add-value c = omega (arith, pow_ten c.digits.digit-index (omega arith))
