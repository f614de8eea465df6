use Rattle.std.proofs.Common.{◌+◌, ◌*◌, ℕ, List, Some, take, drop}
use Rattle.bre_parse.specs.Tree.{tree_of, sequence_of, Group}
use Rattle.bre_parse.specs.Ways.{Way, ways, turns, fresh_turn}
use Rattle.bre_match.specs.Spreads.{AreKnown, Leads}
use Rattle.bre_match.proofs.Spreads.{Growing}
use Rattle.bre_match.proofs.spread.+spread.Given as goal

abbrev pub invariant-spread_row-loop-item : goal.invariant-spread_row-loop-item
invariant-spread_row-loop-item l =
    (to : List Way) → Leads l.asked (ways (sequence_of (drop l.item-index l.items)) l.text) l.now.items to
    → Leads l.asked (ways (sequence_of l.items) l.text) l.from to

abbrev pub invariant-spread_group-loop-way : goal.invariant-spread_group-loop-way
invariant-spread_group-loop-way l =
    Leads l.asked (ways (Group l.group (tree_of l.content)) l.text) (take l.way-index l.from) l.to.items

abbrev pub invariant-spread_repeat-loop-done : goal.invariant-spread_repeat-loop-done
invariant-spread_repeat-loop-done l =
    (to : List Way)
    → ((more : ℕ) → Leads l.asked (turns more (fresh_turn (tree_of l.content) (ways (tree_of l.content) l.text)) l.least l.most l.done)
    l.now.items to)
    → (more : ℕ) → Leads l.asked (turns more (fresh_turn (tree_of l.content) (ways (tree_of l.content) l.text)) l.least l.most 0) l.from to

abbrev pub invariant-spread_more-loop-round : goal.invariant-spread_more-loop-round
invariant-spread_more-loop-round l = record {
  known : AreKnown l.asked l.all.items l.from;
  growing : Growing l.asked (fresh_turn (tree_of l.content) (ways (tree_of l.content) l.text)) l.all.items l.added.items;
}

abbrev pub invariant-spread_up_to-loop-passed : goal.invariant-spread_up_to-loop-passed
invariant-spread_up_to-loop-passed l = record {
  known : AreKnown l.asked l.all.items l.now.items;
  leads : (to : List Way) → AreKnown l.asked to l.all.items
      → ((more : ℕ) → Leads l.asked (turns more (fresh_turn (tree_of l.content) (ways (tree_of l.content) l.text)) l.least (Some l.most)
      (l.least + l.passed)) l.now.items to)
      → (more : ℕ) → Leads l.asked (turns more (fresh_turn (tree_of l.content) (ways (tree_of l.content) l.text)) l.least (Some l.most)
      l.least) l.from to;
}

-- a part of the tree counts more than what is done with it
abbrev pub decreases-spread : goal.decreases-spread
decreases-spread l = 4 * goal.size-spread l

abbrev pub decreases-spread_row : goal.decreases-spread_row
decreases-spread_row l = 4 * goal.size-spread_row l + 3

abbrev pub decreases-spread_group : goal.decreases-spread_group
decreases-spread_group l = 4 * goal.size-spread_group l + 3

abbrev pub decreases-spread_turn : goal.decreases-spread_turn
decreases-spread_turn l = 4 * goal.size-spread_turn l + 1

abbrev pub decreases-spread_repeat : goal.decreases-spread_repeat
decreases-spread_repeat l = 4 * goal.size-spread_repeat l + 3

abbrev pub decreases-spread_more : goal.decreases-spread_more
decreases-spread_more l = 4 * goal.size-spread_more l + 2

abbrev pub decreases-spread_up_to : goal.decreases-spread_up_to
decreases-spread_up_to l = 4 * goal.size-spread_up_to l + 2
