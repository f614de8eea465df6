use Rattle.std.proofs.Common.{◌≡◌, ◌+◌, ◌-◌, ◌≤◌, length}
use Rattle.bre_parse.specs.Tree.{sequence_of}
use Rattle.bre_parse.specs.Match.{match_from, match_among}
use Rattle.bre_match.specs.Meeting.{LeadNowhere}
use Rattle.bre_match.specs.Outlooks.{NothingComes}
use Rattle.bre_match.proofs.searched_match.Given as goal

abbrev pub invariant-loop-start : goal.invariant-loop-start
invariant-loop-start l = record {
  passed : l.from ≤ l.start;
  within : l.start ≤ length l.text + 1;
  left : match_from (sequence_of l.items) l.text l.from ≡ match_among (length l.text + 1 - l.start) (sequence_of l.items) l.text l.start;
  nowhere : LeadNowhere l.items l.text l.seen.marks.items;
  nothing : NothingComes l.items l.text l.outlook;
}

abbrev pub decreases-loop-start : goal.decreases-loop-start
decreases-loop-start l = length l.text + 1 - l.start
