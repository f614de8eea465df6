use Rattle.std.proofs.Common.{length}
use Rattle.hints.proofs.landmarking.least_landmarks.Given as goal

abbrev pub decreases-fewer : goal.decreases-fewer
decreases-fewer l = length l.left
