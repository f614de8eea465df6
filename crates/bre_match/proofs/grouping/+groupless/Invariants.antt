use Rattle.std.proofs.Common.{◌≡◌, drop}
use Rattle.bre_parse.specs.Tree.{sequence_of}
use Rattle.bre_parse.specs.Groups.{number_of_groups}
use Rattle.bre_match.proofs.grouping.+groupless.Given as goal

abbrev pub invariant-all_groupless-loop-item : goal.invariant-all_groupless-loop-item
invariant-all_groupless-loop-item l = number_of_groups (sequence_of (drop l.item-index l.items)) ≡ number_of_groups (sequence_of l.items)
