-- The letters that are left give the other names.
use Rattle.std.proofs.Common.{◌≡◌, ◌≤◌, ◌++◌, map}
use Rattle.zones.specs.Name.{mark}
use Rattle.hints.specs.Nowhere.{letters_down}
use Rattle.hints.proofs.nowhere.names_of.Given as goal

abbrev pub invariant-loop-below : goal.invariant-loop-below
invariant-loop-below l = record {
  inside : l.below ≤ l.count;
  rest : l.names.items ++ map mark (letters_down l.below) ≡ map mark (letters_down l.count);
}

abbrev pub decreases-loop-below : goal.decreases-loop-below
decreases-loop-below l = l.below
