-- How a zone keeps a bound as one number. No public contract speaks of it.
use Rattle.std.specs.Prelude.{◌≡◌, ℤ, pos, Bool, true, false, Option, None, Some, if◌then◌else◌}
use Rattle.std.specs.Ordering.{int_eq}
use Rattle.std.proofs.Common.{refl, sym}
use Rattle.std.proofs.lemmas.Bool.Decides.{Decides-int_eq}

-- the number that stands for any: 2^63 - 1, which no zone keeps
abbrev pub any_number : ℤ
any_number = pos 9223372036854775807

-- the bound that a number stands for
abbrev pub bound_of : ℤ → Option ℤ
bound_of n = if int_eq n any_number then None else Some n

-- the number that stands for a bound
abbrev pub number_of : Option ℤ → ℤ
number_of None = any_number
number_of (Some n) = n

number_of-cases : (n : ℤ) (is_any : Bool) → (is_any ≡ true → n ≡ any_number) → number_of (if is_any then None else Some n) ≡ n
number_of-cases n true h = sym (h refl)
number_of-cases n false h = refl

pub number_of-bound_of : (n : ℤ) → number_of (bound_of n) ≡ n
number_of-bound_of n = number_of-cases n (int_eq n any_number) (Decides-int_eq n any_number).0
