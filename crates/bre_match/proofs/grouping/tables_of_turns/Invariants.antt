use Rattle.std.proofs.Common.{◌≡◌, ◌+◌, true, length}
use Rattle.bre_parse.specs.Tree.{tree_of}
use Rattle.bre_parse.specs.WellFormed.{repeats_in_order}
use Rattle.bre_match.specs.Parts.{part_of}
use Rattle.bre_match.proofs.TurnTables.{TurnsSoFar}
use Rattle.bre_match.proofs.grouping.tables_of_turns.Given as goal

abbrev pub invariant-loop-told : goal.invariant-loop-told
invariant-loop-told l = record {
  size : length l.tables.items ≡ l.told + 1;
  made : repeats_in_order (tree_of l.content) ≡ true → TurnsSoFar (part_of (tree_of l.content)) l.least l.fn.most l.text l.low l.high l.told l.tables.items;
}
