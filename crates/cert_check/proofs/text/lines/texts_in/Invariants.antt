-- What is read so far, with what is left, is all of the text.
use Rattle.std.proofs.Common.{◌≡◌, ◌<◌, ◌++◌, Some, map, length}
use Rattle.cert_check.specs.text.Text.{spaced, choice_word}
use Rattle.cert_check.specs.text.Reading.{EndsWord}
use Rattle.cert_check.proofs.text.lines.texts_in.Given as goal

abbrev pub invariant-loop-word : goal.invariant-loop-word
invariant-loop-word l = record {
  read : spaced (map (λ text. choice_word (Some text)) l.texts.items) ++ l.left ≡ l.text;
  ends : 0 < length l.texts.items → EndsWord l.left;
}

abbrev pub decreases-loop-word : goal.decreases-loop-word
decreases-loop-word l = length l.left
