use Rattle.std.proofs.Common.{◌-◌, drop}
use Rattle.bre_parse.specs.Tree.{tree_of, sequence_of}
use Rattle.bre_match.specs.Parts.{part_of, needed, up_to, Nothing}
use Rattle.bre_match.proofs.ColumnRows.{Looked, Leads, Puts}
use Rattle.bre_match.proofs.column.+step.Given as goal

abbrev pub invariant-step_all-loop-item : goal.invariant-step_all-loop-item
invariant-step_all-loop-item l = record { after : Looked (part_of (sequence_of l.items)) (part_of (sequence_of (drop l.item-index l.items))) l.text l.place (drop l.fn.before.at l.marks) (drop l.passed.at l.marks) l.fn.before.weight l.passed.weight; put : Puts l.asked (part_of (sequence_of l.items)) (part_of (sequence_of (drop l.item-index l.items))) l.text l.place (drop l.fn.before.at l.marks) (drop l.passed.at l.marks) l.fn.before.weight l.passed.weight l.fn.out.items l.out.items }

abbrev pub invariant-step_needed-loop-turn : goal.invariant-step_needed-loop-turn
invariant-step_needed-loop-turn l = record { after : Looked (needed l.count (part_of (tree_of l.content)) Nothing) (needed (l.count - l.turn) (part_of (tree_of l.content)) Nothing) l.text l.place (drop l.fn.before.at l.marks) (drop l.passed.at l.marks) l.fn.before.weight l.passed.weight; put : Puts l.asked (needed l.count (part_of (tree_of l.content)) Nothing) (needed (l.count - l.turn) (part_of (tree_of l.content)) Nothing) l.text l.place (drop l.fn.before.at l.marks) (drop l.passed.at l.marks) l.fn.before.weight l.passed.weight l.fn.out.items l.out.items }

abbrev pub invariant-step_up_to-loop-turn : goal.invariant-step_up_to-loop-turn
invariant-step_up_to-loop-turn l = record { after : Leads (up_to l.count (part_of (tree_of l.content))) (up_to (l.count - l.turn) (part_of (tree_of l.content))) l.text l.place (drop l.fn.before.at l.marks) (drop l.passed.at l.marks) l.fn.before.weight l.passed.weight l.least; put : Puts l.asked (up_to l.count (part_of (tree_of l.content))) (up_to (l.count - l.turn) (part_of (tree_of l.content))) l.text l.place (drop l.fn.before.at l.marks) (drop l.passed.at l.marks) l.fn.before.weight l.passed.weight l.fn.out.items l.out.items }
