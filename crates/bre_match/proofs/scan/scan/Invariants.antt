use Rattle.std.proofs.Common.{◌+◌, ◌-◌, ◌<◌, ◌≤◌, length}
use Rattle.bre_parse.specs.Tree.{sequence_of}
use Rattle.bre_match.proofs.AutomatonRuns.{Run}
use Rattle.bre_match.proofs.scan.scan.Given as goal

abbrev pub invariant-loop-place : goal.invariant-loop-place
invariant-loop-place l = Run (sequence_of l.items) l.text l.from l.states.items l.table.items l.place l.clean l.state

abbrev pub decreases-loop-place : goal.decreases-loop-place
decreases-loop-place l = length l.text + 1 - l.place

abbrev pub invariant-loop-place-2 : goal.invariant-loop-place-2
invariant-loop-place-2 l = record {
  run : Run (sequence_of l.items) l.text l.from l.states.items l.table.items l.place l.clean l.state;
  onward : l.initial.place ≤ l.place;
  inside : l.place < length l.text;
}

abbrev pub decreases-loop-place-2 : goal.decreases-loop-place-2
decreases-loop-place-2 l = l.plain - l.place
