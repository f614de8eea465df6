-- The bounds so far, and what bounds there can be after them.
use Rattle.std.proofs.Common.{◌≡◌, ◌++◌, length, map, List}
use Rattle.std.specs.List.{All}
use Rattle.zones.specs.KnownBounds.{PlacedBound}
use Rattle.zones.specs.Written.{Rise}
use Rattle.cert_check.specs.text.Text.{spaced}
use Rattle.cert_check.specs.text.Reading.{spoken_word, IsSpoken}
use Rattle.cert_check.proofs.texts.SpokenBounds.{SaysRest}
use Rattle.cert_check.proofs.text.zone_lines.bounds_said.Given as goal

abbrev pub invariant-words : goal.invariant-words
invariant-words l = record {
  spoken : All IsSpoken l.bounds.items;
  said : spaced (map spoken_word l.bounds.items) ++ l.left ≡ l.text;
  rest : (others : List PlacedBound) → All IsSpoken others → Rise 0 others → spaced (map spoken_word others) ≡ l.text → SaysRest l.from l.left;
}

abbrev pub decreases-words : goal.decreases-words
decreases-words l = length l.left
