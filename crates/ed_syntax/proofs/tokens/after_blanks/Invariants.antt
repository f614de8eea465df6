-- The blanks that were passed don't matter.
use Rattle.std.proofs.Common.{◌≡◌, ◌≤◌, length}
use Rattle.ed_syntax.specs.spelling.Characters.{after_blanks}
use Rattle.ed_syntax.proofs.tokens.after_blanks.Given as goal

abbrev pub invariant-blanks : goal.invariant-blanks
invariant-blanks l = record {
  value : after_blanks l.left ≡ after_blanks l.bytes;
  shorter : length l.left ≤ length l.bytes;
}

abbrev pub decreases-blanks : goal.decreases-blanks
decreases-blanks l = length l.left
