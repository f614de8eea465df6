-- The best word so far is needed.
use Rattle.bre_parse.specs.Tree.{sequence_of}
use Rattle.bre_match.specs.Passing.{NeedsWord, word_bytes}
use Rattle.bre_match.proofs.needed_word.needed_word.Given as goal

abbrev pub invariant-loop-at : goal.invariant-loop-at
invariant-loop-at l = NeedsWord (sequence_of l.items) (word_bytes l.best)
