use Rattle.std.proofs.Common.{◌≤◌, ◌+◌, length}
use Rattle.bre_parse.specs.Tree.{sequence_of}
use Rattle.bre_match.specs.Spreads.{NoneBetween}
use Rattle.bre_match.proofs.prospect.later_start.Given as goal

abbrev pub invariant-loop-round : goal.invariant-loop-round
invariant-loop-round l = record {
  after : l.from ≤ l.start;
  within : l.start ≤ length l.text + 1;
  none : NoneBetween (sequence_of l.items) l.text l.from l.start;
}
