-- The items that were gone over spell the word.
use Rattle.std.proofs.Common.{◌≡◌, drop}
use Rattle.bre_parse.specs.Tree.{sequence_of}
use Rattle.bre_match.specs.Passing.{word_bytes}
use Rattle.bre_match.proofs.NeededWords.{spelled}
use Rattle.bre_match.proofs.needed_word.front_word.Given as goal

abbrev pub invariant-loop-item : goal.invariant-loop-item
invariant-loop-item l = sequence_of l.items ≡ spelled (word_bytes l.word) (sequence_of (drop l.item-index l.items))
