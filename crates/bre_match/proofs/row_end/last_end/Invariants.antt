use Rattle.std.proofs.Common.{◌≡◌, ◌-◌}
use Rattle.bre_parse.specs.Tree.{sequence_of}
use Rattle.bre_match.specs.RowEnds.{fixed_end, last_end}
use Rattle.bre_match.proofs.row_end.last_end.Given as goal

abbrev pub invariant-loop-passed : goal.invariant-loop-passed
invariant-loop-passed l = last_end (fixed_end (sequence_of l.rest) l.text) l.at (l.more - l.passed) ≡ last_end (fixed_end (sequence_of l.rest) l.text) l.place l.more
