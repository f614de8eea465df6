use Rattle.std.proofs.Common.{◌≡◌, take}
use Rattle.landmarks.proofs.landmark_chain.copies.Given as goal

abbrev pub invariant-loop-landmark : goal.invariant-loop-landmark
invariant-loop-landmark l = l.copies.items ≡ take l.landmark-index l.landmarks
