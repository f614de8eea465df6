use Rattle.std.proofs.Common.{◌≡◌, drop}
use Rattle.bre_parse.specs.Tree.{sequence_of}
use Rattle.bre_match.specs.RowEnds.{row_end}
use Rattle.bre_match.proofs.row_end.row_end.Given as goal

abbrev pub invariant-loop-i : goal.invariant-loop-i
invariant-loop-i l = row_end (sequence_of (drop l.i l.items)) l.text l.at ≡ row_end (sequence_of l.items) l.text l.start
