-- How a kept zone is read: its known bounds, written one after another into a zone. No public contract speaks of it.
use Rattle.std.specs.Prelude.{◌≡◌, ◌≢◌, ℕ, suc, ℤ, ◌/◌, ◌%◌, ◌<◌, ◌≤◌, List, [], ◌∷◌, drop, set, Option, All}
use Rattle.zones.specs.Zone.{Bounds}
use Rattle.zones.specs.Limits.{IsZone}
use Rattle.zones.specs.Steps.{any_zone, any_bound}
use Rattle.zones.specs.KnownBounds.{PlacedBound, known_from, known_bounds}

-- the bounds once each of these stands at its place
abbrev pub written : List PlacedBound → Bounds → Bounds
written [] bounds = bounds
written (b ∷ rest) bounds = written rest (set bounds b.place b.bound)

-- these give a zone, of which they are the known bounds
pub record IsKeptZone (entries : List PlacedBound) : Type 0 where
  pub zone : IsZone (written entries any_zone)
  pub known : known_bounds (written entries any_zone) ≡ entries

-- the bound at a place of the zone in which nothing is known
abbrev pub any_at : (place : ℕ) → Option ℤ
any_at place = any_bound (place / 32) (place % 32)

-- a zone's known bounds from a place on
unfoldable pub known_after : (place : ℕ) → Bounds → List PlacedBound
known_after place zone = known_from place (drop place zone)

-- places rise, from one on
abbrev pub Rise : (place : ℕ) → List PlacedBound → Type 0
Rise place [] = Unit {0}
Rise place (b ∷ rest) = (place ≤ b.place) × Rise (suc b.place) rest

-- a bound at a place is not that of the zone in which nothing is known
pub record IsKnownBound (b : PlacedBound) : Type 0 where
  pub placed : b.place < 1024
  pub known : b.bound ≢ any_at b.place

-- bounds that a table can have as its known ones
pub record AreKnownBounds (entries : List PlacedBound) : Type 0 where
  pub rise : Rise 0 entries
  pub each : All IsKnownBound entries

-- both names of a bound stand before a place
abbrev pub IsWithin : (reach : ℕ) → PlacedBound → Type 0
IsWithin reach b = (b.place / 32 < reach) × (b.place % 32 < reach)
