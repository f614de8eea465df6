use Rattle.std.proofs.Common.{◌+◌, ◌-◌, length}
use Rattle.bre_parse.specs.Tree.{tree_of}
use Rattle.bre_match.specs.Ends.{leads_on, entered}
use Rattle.bre_match.proofs.Pieces.{Ran}
use Rattle.bre_match.proofs.table.nearest.Given as goal

abbrev pub invariant-loop-place : goal.invariant-loop-place
invariant-loop-place l = Ran (tree_of l.back) l.piece (entered (leads_on l.stops l.next)) l.place l.marks.items l.all.items

abbrev pub decreases-loop-place : goal.decreases-loop-place
decreases-loop-place l = length l.piece + 1 - l.place
