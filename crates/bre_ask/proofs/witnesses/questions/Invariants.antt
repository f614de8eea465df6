use Rattle.std.proofs.Common.{◌+◌, ◌-◌, ◌≤◌, length}
use Rattle.bre_ask.proofs.witnesses.questions.Given as goal

abbrev pub invariant-loop-start : goal.invariant-loop-start
invariant-loop-start l = l.start ≤ length l.lines + 1

abbrev pub decreases-loop-start : goal.decreases-loop-start
decreases-loop-start l = length l.lines + 1 - l.start
