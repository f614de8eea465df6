-- What is read so far, with what is left, is all of the text.
use Rattle.std.proofs.Common.{◌≡◌, ◌<◌, ◌++◌, map, length}
use Rattle.std.specs.List.{All}
use Rattle.cert_check.specs.text.Text.{spaced}
use Rattle.cert_check.specs.text.FactsText.{fact_word, FactIsFormed}
use Rattle.cert_check.specs.text.Reading.{EndsWord}
use Rattle.cert_check.proofs.text.fact_reading.facts_in.Given as goal

abbrev pub invariant-loop-word : goal.invariant-loop-word
invariant-loop-word l = record {
  read : spaced (map fact_word l.facts.items) ++ l.left ≡ l.text;
  ends : 0 < length l.facts.items → EndsWord l.left;
  each : All (FactIsFormed l.marks) l.facts.items;
}

abbrev pub decreases-loop-word : goal.decreases-loop-word
decreases-loop-word l = length l.left
