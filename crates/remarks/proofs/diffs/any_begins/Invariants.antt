use Rattle.std.proofs.Common.{length}
use Rattle.remarks.proofs.diffs.any_begins.Given as goal

abbrev pub decreases-loop-rest : goal.decreases-loop-rest
decreases-loop-rest l = length l.left
