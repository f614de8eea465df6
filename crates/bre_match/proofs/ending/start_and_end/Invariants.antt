use Rattle.std.proofs.Common.{◌≡◌, ◌≤◌, length}
use Rattle.bre_parse.specs.Tree.{sequence_of}
use Rattle.bre_parse.specs.Match.{match_from}
use Rattle.bre_match.specs.declared.state.Starts.TheVariants as kind
use Rattle.bre_match.specs.Parts.{part_of}
use Rattle.bre_match.specs.Automata.{Serves}
use Rattle.bre_match.proofs.ending.start_and_end.Given as goal

abbrev pub invariant-loop-tried : goal.invariant-loop-tried
invariant-loop-tried l = record {
  serves : Serves kind.First (part_of (sequence_of l.items)) l.states.items l.table.items;
  low : l.from ≤ l.start;
  high : l.start ≤ length l.text;
  same : match_from (sequence_of l.items) l.text l.start ≡ match_from (sequence_of l.items) l.text l.from;
}
