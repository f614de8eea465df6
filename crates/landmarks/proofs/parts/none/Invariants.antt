-- what is left, after the patterns so far, is all of it
use Rattle.std.proofs.Common.{length}
use Rattle.landmarks.proofs.PartReads.{NoneLeft}
use Rattle.landmarks.proofs.parts.none.Given as goal

abbrev pub invariant-patterns : goal.invariant-patterns
invariant-patterns l = NoneLeft l.text l.left l.none

abbrev pub decreases-patterns : goal.decreases-patterns
decreases-patterns l = length l.left
