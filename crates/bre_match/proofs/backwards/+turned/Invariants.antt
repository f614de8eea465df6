use Rattle.std.proofs.Common.{◌≡◌, ◌≤◌, true, length, drop}
use Rattle.bre_parse.specs.Tree.{sequence_of}
use Rattle.bre_parse.specs.WellFormed.{repeats_in_order}
use Rattle.bre_match.specs.Parts.{part_of}
use Rattle.bre_match.specs.Backwards.{Backwards}
use Rattle.bre_match.proofs.backwards.+turned.Given as goal

abbrev pub invariant-turned_row-loop-left : goal.invariant-turned_row-loop-left
invariant-turned_row-loop-left l = record {
  few : l.left ≤ length l.items;
  back : repeats_in_order (sequence_of l.items) ≡ true → Backwards l.edges.starts l.edges.ends (part_of (sequence_of (drop l.left l.items))) (part_of (sequence_of l.back.items));
}

abbrev pub decreases-turned_row-loop-left : goal.decreases-turned_row-loop-left
decreases-turned_row-loop-left l = l.left
