use Rattle.std.proofs.Common.{◌≡◌, ◌++◌, take}
use Rattle.bre_match.specs.Listed.{listed}
use Rattle.bre_match.proofs.listed.push_list.Given as goal

abbrev pub invariant-loop-at : goal.invariant-loop-at
invariant-loop-at l = l.out.items ≡ l.fn.out.items ++ take l.at (listed l.ways)
