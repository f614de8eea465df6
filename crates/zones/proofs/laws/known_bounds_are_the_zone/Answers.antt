use Rattle.std.proofs.Common.{◌≡◌, ◌<◌, ◌∙◌, ap, sym, List, length, get_or, None}
use Rattle.std.proofs.lemmas.List.Elements.{All-weaker}
use Rattle.zones.specs.Steps.{any_zone}
use Rattle.zones.specs.KnownBounds.{PlacedBound, known_bounds}
use Rattle.zones.specs.Written.{written}
use Rattle.zones.proofs.Listing.{IsListed, All-known_bounds, written-known_bounds}
use Rattle.zones.proofs.laws.known_bounds_are_the_zone.Goals as goal

pub returns-clause-only : goal.returns-clause-only
returns-clause-only c one other size size_too same =
    sym (written-known_bounds one size) ∙ ap (λ (entries : List PlacedBound). written entries any_zone) same ∙ written-known_bounds other size_too

pub returns-clause-each : goal.returns-clause-each
returns-clause-each c zone = All-weaker (IsListed zone) (λ b. (b.place < length zone) × (b.bound ≡ get_or zone b.place None)) (λ b l. (l.placed, l.at)) (known_bounds zone) (All-known_bounds zone)
