use Rattle.std.proofs.Common.{◌+◌, ◌-◌, ◌≤◌, length}
use Rattle.bre_ask.proofs.blocks.size_of_block.Given as goal

abbrev pub invariant-loop-start : goal.invariant-loop-start
invariant-loop-start l = l.start ≤ length l.text + 1

abbrev pub decreases-loop-start : goal.decreases-loop-start
decreases-loop-start l = length l.text + 1 - l.start
