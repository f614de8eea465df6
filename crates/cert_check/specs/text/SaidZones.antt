-- Zones that were read, with the words that say them.
use Rattle.std.specs.Prelude.{◌≡◌, ℕ, ℤ, List, Option, Some, None}
use Rattle.std.proofs.Props.{props}
use Rattle.zones.specs.Bound.{IsKept}
use Rattle.zones.specs.Zone.{Bounds}
use Rattle.ed_rules.specs.Formed.{ZoneIsFormed}
use Rattle.cert_check.specs.text.Text.{spaced, bounds_words}
use Rattle.cert_check.specs.text.Reading.{all_marks}

-- these words say the zone, whatever letters it speaks of
abbrev pub IsSaidZone : (words : List ℕ) → Bounds → Type 0
IsSaidZone words zone = (spaced (bounds_words 0 zone) ≡ words) × ZoneIsFormed all_marks zone

IsKept-prop : (bound : Option ℤ) → IsProp (IsKept bound)
IsKept-prop None = Prim.hlevel props
IsKept-prop (Some number) = Prim.hlevel props

-- there is at most one proof that they do
pub IsSaidZone-prop : (words : List ℕ) (zone : Bounds) → IsProp (IsSaidZone words zone)
IsSaidZone-prop words zone = Prim.hlevel (props, IsKept-prop)
