-- How far the known names of a zone reach, which a zone keeps beside its bounds. No public contract speaks of it.
use Rattle.std.specs.Prelude.{◌≡◌, ℕ, zero, suc, ◌<◌, ◌≤◌, Bool, false, ◌||◌, not, if◌then◌else◌}
use Rattle.std.specs.Option.{option_eq}
use Rattle.std.specs.Ordering.{int_eq}
use Rattle.zones.specs.Zone.{Bounds, bound}
use Rattle.zones.specs.Steps.{any_bound}
use Rattle.zones.specs.Limits.{IsZone}

-- nothing is known of the names from a place on
pub record AreUnknown (zone : Bounds) (from : ℕ) : Type 0 where
  pub row : (p q : ℕ) → from ≤ p → p < 32 → q < 32 → bound zone p q ≡ any_bound p q
  pub column : (p q : ℕ) → from ≤ q → p < 32 → q < 32 → bound zone p q ≡ any_bound p q

-- the bound of two names is not that of the zone in which nothing is known
abbrev pub is_known_pair : Bounds → (p q : ℕ) → Bool
is_known_pair zone p q = not (option_eq int_eq (bound zone p q) (any_bound p q))

-- something is known of a name and one of the first names, one way or the other
unfoldable pub is_known_with : Bounds → (p names : ℕ) → Bool
is_known_with zone p zero = false
is_known_with zone p (suc q) = is_known_with zone p q || (is_known_pair zone p q || is_known_pair zone q p)

-- Of the first names, how many there are up to the last of which something is known. Its bounds with itself and earlier names
-- suffice to tell.
unfoldable pub reach_below : Bounds → (names : ℕ) → ℕ
reach_below zone zero = zero
reach_below zone (suc p) = if is_known_with zone p (suc p) then suc p else reach_below zone p

abbrev pub reach_of : Bounds → ℕ
reach_of zone = reach_below zone 32

-- bounds, and how far they reach
pub record IsZoneOfReach (table : Bounds) (reach : ℕ) : Type 0 where
  pub zone : IsZone table
  pub known : reach ≡ reach_of table
