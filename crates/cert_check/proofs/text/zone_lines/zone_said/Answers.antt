use Rattle.std.proofs.Common.{ℕ, refl, List, map, ◌∙◌, sym, ap, subst}
use Rattle.std.specs.List.{All}
use Rattle.zones.specs.KnownBounds.{PlacedBound, known_bounds}
use Rattle.zones.proofs.Rising.{AreKnownBounds-known}
use Rattle.cert_check.specs.text.Text.{Word, spaced}
use Rattle.cert_check.specs.text.Reading.{spoken_word, IsSpoken}
use Rattle.cert_check.proofs.texts.SpokenBounds.{bounds-same, spoken-zone, formed-spoken, spoken-formed}
use Rattle.cert_check.proofs.text.zone_lines.zone_said.Goals as goal

pub returns-in_default : goal.returns-in_default
returns-in_default c = record {
  exact = λ v h says.
      let spoken = formed-spoken v h in
      let none = rw c.in_default.is at c.in_ok-bounds.ensures.exact in
      none (known_bounds v) spoken (AreKnownBounds-known v (known_bounds v) h.is_zone.size refl).rise (ap (λ (ws : List Word). spaced ws) (sym (spoken-zone v spoken)) ∙ says);
}

pub returns-in_default-from_entries : goal.returns-in_default-from_entries
returns-in_default-from_entries c = record {
  exact = λ v h says.
      let spoken = formed-spoken v h in
      let read = rw c.in-Some.is at c.in_ok-bounds.ensures.exact in
      c.in_default-from_entries.ensures.exact v h.is_zone.size
      (bounds-same (known_bounds v) c.in-Some.bounds.items spoken read.0 (ap (λ (ws : List Word). spaced ws) (sym (spoken-zone v spoken)) ∙ says ∙ sym read.1));
}

pub returns : goal.returns
returns c =
    let zone = c.in-Some-from_entries.zone in
    let read = rw c.in-Some.is at c.in_ok-bounds.ensures.exact in
    let known = c.in-Some-from_entries.ensures.exact in
    let spoken = subst (λ (bs : List PlacedBound). All IsSpoken bs) (sym known) read.0 in
    record {
      exact = (
        ap (λ (ws : List Word). spaced ws) (spoken-zone zone spoken) ∙ ap (λ (bs : List PlacedBound). spaced (map spoken_word bs)) known ∙ read.1,
        spoken-formed zone c.in-Some-from_entries.ensures.well_formed spoken,
      );
    }
