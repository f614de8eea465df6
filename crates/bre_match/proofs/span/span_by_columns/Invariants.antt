use Rattle.std.proofs.Common.{◌+◌, ◌-◌, length}
use Rattle.bre_parse.specs.Tree.{sequence_of}
use Rattle.bre_match.proofs.ColumnSearch.{Searched}
use Rattle.bre_match.proofs.span.span_by_columns.Given as goal

abbrev pub invariant-loop-place : goal.invariant-loop-place
invariant-loop-place l = Searched (sequence_of l.items) l.text l.from l.place l.marks.items l.best

abbrev pub decreases-loop-place : goal.decreases-loop-place
decreases-loop-place l = length l.text + 1 - l.place
