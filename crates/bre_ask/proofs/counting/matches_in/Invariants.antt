use Rattle.std.proofs.Common.{◌+◌, ◌-◌, length}
use Rattle.bre_ask.proofs.counting.matches_in.Given as goal

abbrev pub decreases-loop-place : goal.decreases-loop-place
decreases-loop-place l = length l.line + 1 - l.place
