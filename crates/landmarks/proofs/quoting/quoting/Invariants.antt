use Rattle.std.proofs.Common.{length}
use Rattle.landmarks.proofs.quoting.quoting.Given as goal

abbrev pub decreases-bytes : goal.decreases-bytes
decreases-bytes l = length l.left
