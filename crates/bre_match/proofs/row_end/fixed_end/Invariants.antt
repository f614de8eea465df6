use Rattle.std.proofs.Common.{◌≡◌, drop}
use Rattle.bre_parse.specs.Tree.{sequence_of}
use Rattle.bre_match.specs.RowEnds.{fixed_end}
use Rattle.bre_match.proofs.row_end.fixed_end.Given as goal

abbrev pub invariant-loop-item : goal.invariant-loop-item
invariant-loop-item l = fixed_end (sequence_of (drop l.item-index l.items)) l.text l.at ≡ fixed_end (sequence_of l.items) l.text l.place
