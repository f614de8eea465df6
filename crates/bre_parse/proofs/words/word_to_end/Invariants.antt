use Rattle.std.proofs.Common.{◌≡◌, ◌++◌, drop}
use Rattle.std.specs.Prelude.{option_map}
use Rattle.bre_parse.specs.Tree.{sequence_of}
use Rattle.bre_parse.specs.Words.{word_to_end}
use Rattle.bre_parse.proofs.words.word_to_end.Given as goal

abbrev pub invariant-loop-at : goal.invariant-loop-at
invariant-loop-at l = option_map (λ rest. l.word.items ++ rest) (word_to_end (sequence_of (drop l.at l.items))) ≡ word_to_end (sequence_of l.items)
