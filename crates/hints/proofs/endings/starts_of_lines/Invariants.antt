use Rattle.std.proofs.Common.{length}
use Rattle.hints.proofs.endings.starts_of_lines.Given as goal

abbrev pub decreases-lines : goal.decreases-lines
decreases-lines l = length l.left
