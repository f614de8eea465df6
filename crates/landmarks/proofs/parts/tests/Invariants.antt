-- what is left, after the tests so far, is all of it
use Rattle.std.proofs.Common.{length}
use Rattle.landmarks.proofs.PartReads.{TestsLeft}
use Rattle.landmarks.proofs.parts.tests.Given as goal

abbrev pub invariant-tests : goal.invariant-tests
invariant-tests l = TestsLeft l.text l.left l.also l.lacks

abbrev pub decreases-tests : goal.decreases-tests
decreases-tests l = length l.left
