-- The known bounds of a zone one by one: those that aren't the bounds of the zone in which nothing is known.
use Rattle.std.specs.Prelude.{ℕ, suc, ◌/◌, ◌%◌, ℤ, Bool, List, [], ◌∷◌, Option, if◌then◌else◌}
use Rattle.std.specs.Option.{option_eq}
use Rattle.std.specs.Ordering.{int_eq}
use Rattle.zones.specs.Zone.{Bounds}
use Rattle.zones.specs.Steps.{any_bound}

-- a bound with its place: that of x - y stands at 32 * x + y
pub record PlacedBound : Type 0 where
  pub place : ℕ
  pub bound : Option ℤ

-- the bound at a place is that of the zone in which nothing is known
abbrev pub is_unknown : (place : ℕ) → Option ℤ → Bool
is_unknown place b = option_eq int_eq b (any_bound (place / 32) (place % 32))

-- the known bounds from this place on
abbrev pub known_from : (place : ℕ) → Bounds → List PlacedBound
known_from place [] = []
known_from place (b ∷ bounds) =
    if is_unknown place b then known_from (suc place) bounds
    else (record { place = place; bound = b }) ∷ known_from (suc place) bounds

-- the known bounds of a zone, in rising places
unfoldable pub known_bounds : Bounds → List PlacedBound
known_bounds zone = known_from 0 zone
