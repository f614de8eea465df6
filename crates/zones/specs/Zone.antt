-- Zones: to each ordered pair (x, y) of 32 names a bound of x - y. Names go by their places.
use Rattle.std.specs.Prelude.{◌≡◌, ◌≢◌, true, ℕ, ◌+◌, ◌*◌, ◌/◌, ◌%◌, ◌<◌, ◌==◌, if◌then◌else◌, ℤ, ◌-ℤ◌, Option, None, List, map, get_or}
use Rattle.std.specs.List.{range_with_len}
use Rattle.zones.specs.Bound.{Obeys, covers_bound}

-- a zone is its 1024 bounds, row by row
abbrev pub Bounds : Type 0
Bounds = List (Option ℤ)

-- the numbers that the names stand for
abbrev pub Numbers : Type 0
Numbers = ℕ → ℤ

-- the bound of the pair (x, y)
unfoldable pub bound : Bounds → ℕ → ℕ → Option ℤ
bound zone x y = get_or zone (32 * x + y) None

-- the zone that has these bounds
unfoldable pub zone_by : (ℕ → ℕ → Option ℤ) → Bounds
zone_by bound_at = map (λ place. bound_at (place / 32) (place % 32)) (range_with_len 0 1024)

-- a zone holds of numbers where the difference of each two of them obeys its bound
unfoldable pub Holds : Bounds → Numbers → Type 0
Holds zone number = (x y : ℕ) → x < 32 → y < 32 → Obeys (number x -ℤ number y) (bound zone x y)

-- the numbers before and after are the same, but for that of x
abbrev pub ChangesOnly : ℕ → Numbers → Numbers → Type 0
ChangesOnly x before after = (p : ℕ) → p ≢ x → after p ≡ before p

-- the numbers, but that x stands for n
abbrev pub updated : Numbers → ℕ → ℤ → Numbers
updated number x n p = if p == x then n else number p

-- a zone covers another where no bound of it is less than the other's
unfoldable pub Covers : Bounds → Bounds → Type 0
Covers weak strong = (x y : ℕ) → x < 32 → y < 32 → covers_bound (bound weak x y) (bound strong x y) ≡ true
