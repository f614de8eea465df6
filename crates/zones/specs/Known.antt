-- What a zone is asked: what it knows of the difference of two names.
use Rattle.std.specs.Prelude.{ℕ, ℤ, int_le, Bool, false, Option, None, Some}
use Rattle.zones.specs.Bound.{negative_of}
use Rattle.zones.specs.Zone.{Bounds, bound}

-- a bound says that a difference is at most c
abbrev pub is_within : Option ℤ → ℤ → Bool
is_within None c = false
is_within (Some d) c = int_le d c

-- it is known that x is at most y + c
unfoldable pub known : Bounds → ℕ → ℕ → ℤ → Bool
known zone x y c = is_within (bound zone x y) c

-- the known bounds of x - y: the number that it is at least, and the number that it is at most
abbrev pub least : Bounds → ℕ → ℕ → Option ℤ
least zone x y = negative_of (bound zone y x)

abbrev pub greatest : Bounds → ℕ → ℕ → Option ℤ
greatest zone x y = bound zone x y
