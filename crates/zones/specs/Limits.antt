-- What is true of each zone, and of the diagonal of a zone that steps made.
use Rattle.std.specs.Prelude.{◌≡◌, ℕ, ◌<◌, ℤ, pos, negsuc, ◌≤ℤ◌, int_lt, Option, Some, None, length, get_or, if◌then◌else◌}
use Rattle.zones.specs.Bound.{IsKept}
use Rattle.zones.specs.Zone.{Bounds, bound}

-- a zone has 1024 bounds, and keeps each
pub record IsZone (zone : Bounds) : Type 0 where
  pub size : length zone ≡ 1024
  pub kept : (place : ℕ) → IsKept (get_or zone place None)

-- a bound is a number that is at most 0
abbrev pub IsAtMostZero : Option ℤ → Type 0
IsAtMostZero None = ⊥
IsAtMostZero (Some c) = c ≤ℤ pos 0

-- on the diagonal each bound is a number that is at most 0
unfoldable pub HasLowDiagonal : Bounds → Type 0
HasLowDiagonal zone = (x : ℕ) → x < 32 → IsAtMostZero (bound zone x x)

-- an offset, but at most 4 * 10^15 on either side
abbrev pub clamp : ℤ → ℤ
clamp c =
    if int_lt (pos 4000000000000000) c then pos 4000000000000000
    else if int_lt c (negsuc 3999999999999999) then negsuc 3999999999999999
    else c

-- an offset that may be unbounded
abbrev pub clamp_side : Option ℤ → Option ℤ
clamp_side None = None
clamp_side (Some c) = Some (clamp c)
