use Rattle.std.proofs.Common.{◌≡◌, length}
use Rattle.bre_match.specs.Runs.{tasks}
use Rattle.bre_match.proofs.left.next_ahead.Given as goal

abbrev pub invariant-loop-first : goal.invariant-loop-first
invariant-loop-first l = tasks l.fn.left.items ≡ tasks l.left.items

abbrev pub decreases-loop-first : goal.decreases-loop-first
decreases-loop-first l = length l.left.items
