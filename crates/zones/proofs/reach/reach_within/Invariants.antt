use Rattle.std.proofs.Common.{◌≡◌, ◌≤◌}
use Rattle.zones.specs.Reach.{reach_below, reach_of}
use Rattle.zones.proofs.reach.reach_within.Given as goal

abbrev pub invariant-loop-reach : goal.invariant-loop-reach
invariant-loop-reach l = (l.reach ≤ l.most) × (reach_of l.table ≡ reach_below l.table l.reach)

abbrev pub decreases-loop-reach : goal.decreases-loop-reach
decreases-loop-reach l = l.reach
