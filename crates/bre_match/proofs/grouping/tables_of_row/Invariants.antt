use Rattle.std.proofs.Common.{◌≡◌, ◌+◌, true, length}
use Rattle.bre_parse.specs.Tree.{sequence_of}
use Rattle.bre_parse.specs.WellFormed.{repeats_in_order}
use Rattle.bre_match.proofs.RowTables.{RowSoFar}
use Rattle.bre_match.proofs.grouping.tables_of_row.Given as goal

abbrev pub invariant-loop-told : goal.invariant-loop-told
invariant-loop-told l = record {
  size : length l.tables.items ≡ l.told + 1;
  made : repeats_in_order (sequence_of l.items) ≡ true → RowSoFar l.items l.text l.low l.high l.told l.tables.items;
}
