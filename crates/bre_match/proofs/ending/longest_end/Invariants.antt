use Rattle.std.proofs.Common.{◌+◌, ◌-◌, length}
use Rattle.bre_parse.specs.Tree.{sequence_of}
use Rattle.bre_match.proofs.EndRuns.{EndRun}
use Rattle.bre_match.proofs.ending.longest_end.Given as goal

abbrev pub invariant-loop-place : goal.invariant-loop-place
invariant-loop-place l = EndRun (sequence_of l.items) l.text l.start l.states.items l.table.items l.place l.state l.end

abbrev pub decreases-loop-place : goal.decreases-loop-place
decreases-loop-place l = length l.text + 1 - l.place
