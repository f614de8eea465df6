-- What is read so far, with what is left, is all of the word.
use Rattle.std.proofs.Common.{◌≡◌, ◌++◌, length}
use Rattle.std.specs.List.{flat_map}
use Rattle.cert_check.specs.text.Text.{byte_text}
use Rattle.cert_check.proofs.text.words_in.text_in.Given as goal

abbrev pub invariant-loop-byte : goal.invariant-loop-byte
invariant-loop-byte l = flat_map byte_text l.text ++ l.left ≡ l.word

abbrev pub decreases-loop-byte : goal.decreases-loop-byte
decreases-loop-byte l = length l.left
