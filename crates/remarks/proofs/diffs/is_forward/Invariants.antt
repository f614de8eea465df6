use Rattle.std.proofs.Common.{length}
use Rattle.remarks.proofs.diffs.is_forward.Given as goal

abbrev pub decreases-loop-line : goal.decreases-loop-line
decreases-loop-line l = length l.left
