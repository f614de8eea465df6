-- What is read so far, with what is left, is all of the text.
use Rattle.std.proofs.Common.{◌≡◌, ◌<◌, ◌++◌, map, length}
use Rattle.std.specs.List.{All}
use Rattle.cert_check.specs.text.Text.{spaced}
use Rattle.cert_check.specs.text.FactsText.{stretch_word, StretchIsFormed}
use Rattle.cert_check.specs.text.Reading.{EndsWord}
use Rattle.cert_check.proofs.text.fact_reading.stretches_in.Given as goal

abbrev pub invariant-loop-word : goal.invariant-loop-word
invariant-loop-word l = record {
  read : spaced (map stretch_word l.stretches.items) ++ l.left ≡ l.text;
  ends : 0 < length l.stretches.items → EndsWord l.left;
  each : All (StretchIsFormed l.marks) l.stretches.items;
}

abbrev pub decreases-loop-word : goal.decreases-loop-word
decreases-loop-word l = length l.left
