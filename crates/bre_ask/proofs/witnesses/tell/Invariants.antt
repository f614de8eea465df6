use Rattle.std.proofs.Common.{◌+◌, ◌-◌, ◌≤◌, length}
use Rattle.bre_ask.proofs.witnesses.tell.Given as goal

abbrev pub invariant-loop-start : goal.invariant-loop-start
invariant-loop-start g l = l.start ≤ length l.text.items + 1

abbrev pub decreases-loop-start : goal.decreases-loop-start
decreases-loop-start g l = length l.text.items + 1 - l.start
