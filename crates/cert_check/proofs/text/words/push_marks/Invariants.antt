use Rattle.std.proofs.Common.{◌≡◌, ◌<◌, ◌+◌, ◌++◌, length, drop}
use Rattle.cert_check.specs.text.Text.{spaced, letter_a, sure_letters, letters_words}
use Rattle.cert_check.specs.text.Writing.{after_letters}
use Rattle.cert_check.proofs.text.words.push_marks.Given as goal

-- what is written so far, with what is still to be written
abbrev pub invariant-loop-place : goal.invariant-loop-place
invariant-loop-place g l = record {
  written : g.W.TextWriter.written l.out ++ after_letters l.begun (sure_letters (letter_a + l.place) (drop l.place l.marks)) ≡ g.W.TextWriter.written l.initial.out ++ spaced (letters_words (sure_letters letter_a l.marks));
  size : 0 < l.place → length l.marks ≡ 26;
}
