use Rattle.std.proofs.Common.{length}
use Rattle.hints.proofs.numbering.lines_in.Given as goal

abbrev pub decreases-lines : goal.decreases-lines
decreases-lines l = length l.left
