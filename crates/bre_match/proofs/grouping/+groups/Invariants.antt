use Rattle.std.proofs.Common.{◌+◌, ◌*◌}
use Rattle.bre_parse.specs.Tree.{Repeat, tree_of, sequence_of}
use Rattle.bre_match.specs.Tables.{LeadsThere}
use Rattle.bre_match.proofs.RowTables.{RowRead}
use Rattle.bre_match.proofs.TurnTables.{TurnsRead}
use Rattle.bre_match.proofs.grouping.+groups.Given as goal

abbrev pub invariant-set_row-loop-item : goal.invariant-set_row-loop-item
invariant-set_row-loop-item l = LeadsThere (sequence_of l.items) l.text l.low l.high → RowRead l.items l.text l.low l.high l.item l.place l.fn.groups l.groups

abbrev pub invariant-set_turns-loop-done : goal.invariant-set_turns-loop-done
invariant-set_turns-loop-done l = LeadsThere (Repeat l.least l.fn.most (tree_of l.content)) l.text l.low l.high → TurnsRead (tree_of l.content) l.text l.least l.fn.most l.low l.high l.done l.place l.fn.groups l.groups

-- a part of the tree counts more than what is done with it
abbrev pub decreases-set_groups : goal.decreases-set_groups
decreases-set_groups l = 3 * goal.size-set_groups l

abbrev pub decreases-set_turn : goal.decreases-set_turn
decreases-set_turn l = 3 * goal.size-set_turn l + 1

abbrev pub decreases-set_row : goal.decreases-set_row
decreases-set_row l = 3 * goal.size-set_row l + 2

abbrev pub decreases-set_turns : goal.decreases-set_turns
decreases-set_turns l = 3 * goal.size-set_turns l + 2
