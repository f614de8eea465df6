-- what is left, after the landmarks so far, is all of it
use Rattle.std.proofs.Common.{length}
use Rattle.landmarks.proofs.PartReads.{LandmarksLeft}
use Rattle.landmarks.proofs.chain.landmarks.Given as goal

abbrev pub invariant-landmarks : goal.invariant-landmarks
invariant-landmarks l = LandmarksLeft l.text l.left l.chain.items

abbrev pub decreases-landmarks : goal.decreases-landmarks
decreases-landmarks l = length l.left
