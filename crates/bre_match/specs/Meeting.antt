-- The ways of a sequence, of which none is taken up that is like one that met the same item before.
use Rattle.std.specs.Prelude.{◌≡◌, ◌⊎◌, ℕ, ◌+◌, ◌-◌, ◌<◌, ◌≤◌, Bool, false, List, [], ◌∷◌, ◌++◌, None, drop, map, slice_set}
use Rattle.bre_parse.specs.declared.tree.Node.{Node}
use Rattle.bre_parse.specs.Tree.{Tree, sequence_of}
use Rattle.bre_parse.specs.Ways.{Way, ways, by_end}
use Rattle.bre_match.specs.Keeping.{Follows}
use Rattle.bre_match.specs.Runs.{groups_at, other_ways, at_item, members, tasks}
use Rattle.bre_match.specs.Turns.{HasTurn}
use Rattle.bre_match.specs.declared.left.Left.{Left}
use Rattle.bre_match.specs.declared.run.Ahead.{Ahead}
use Rattle.bre_match.specs.declared.seen.Mark.{Mark}
use Rattle.bre_match.specs.declared.seen.Seen.{Seen}
use Rattle.bre_match.specs.declared.turn.Bounds.{Bounds}

-- A way like this one has met the same item. A mark tells the item where one of a repeat tells how many turns are done.
abbrev pub HasMet : List Bool → List Mark → Mark → Type 0
HasMet asked marks mark = (bounds : Bounds) × (bounds.unbounded ≡ false) × HasTurn bounds asked marks mark

-- it may be kept in mind that a way was here, in place of another one too
abbrev pub MayMark : (mark : Mark) → (old new : List Mark) → Type 0
MayMark mark old new = (new ≡ old) ⊎ ((new ≡ old ++ mark ∷ []) ⊎ ((at : ℕ) × (new ≡ slice_set old at mark)))

-- the mark of the first of some ways
abbrev pub mark_of : Ahead → Mark
mark_of taken = record { done = taken.item; way = (taken.run.end, groups_at taken.run taken.run.end) }

-- the others, each with the item that it meets
abbrev pub others_of : Ahead → List (ℕ × Way)
others_of taken = map (at_item taken.item) (other_ways taken.run.end taken.run.shorter (groups_at taken.run))

-- the first way's ways through an item
abbrev pub ways_through : Tree → List ℕ → Mark → List Way
ways_through item text mark = by_end (ways item text mark.way.0 mark.way.1)

-- the same way, but from another place
abbrev pub from_place : ℕ → Mark → Mark
from_place place mark = record { done = mark.done; way = (place, mark.way.1) }

-- Some of a way's ways through an item are those of another one, from there, that has met it; so only its own ones come before all else.
abbrev pub TakenOn : List Bool → (item : Tree) → List ℕ → Mark → (old : List Mark) → (before after : List (ℕ × Way)) → Type 0
TakenOn asked item text mark old before after =
    (other : ℕ) × (shared : List Way) × (own : List Way) × (left : List Way) × HasMet asked old (from_place other mark)
    × (ways_through item text mark ≡ shared ++ own) × (ways_through item text (from_place other mark) ≡ shared ++ left)
    × (after ≡ map (at_item (mark.done + 1)) own ++ before)

-- all of its ways come before all else, or only its own ones
abbrev pub TakenInRow : List Bool → (item : Tree) → List ℕ → Mark → (old : List Mark) → (before after : List (ℕ × Way)) → Type 0
TakenInRow asked item text mark old before after =
    (after ≡ map (at_item (mark.done + 1)) (ways_through item text mark) ++ before) ⊎ TakenOn asked item text mark old before after

-- two places lie in one row of bytes of a set
abbrev pub AreInRow : Bool → List (ℕ × ℕ) → List ℕ → (one other : ℕ) → Type 0
AreInRow negated ranges text one other =
    ((one ≤ other) × (other - one ≤ members None 0 negated ranges (drop one text)))
    ⊎ ((other < one) × (one - other ≤ members None 0 negated ranges (drop other text)))

-- What comes of taking up the first of some ways: those of the item's ways that are kept come before all else; or a way like it has met
-- the item before, and nothing comes of it; or only its own ways come before all else. The other ways are left.
abbrev pub TakenAhead : List Bool → (item : Tree) → List ℕ → Ahead → (old new : Seen) → (before after : List Left) → Type 0
TakenAhead asked item text taken old new before after =
    (MayMark (mark_of taken) old.marks.items new.marks.items
    × Follows asked (ways_through item text (mark_of taken)) (taken.item + 1) (others_of taken ++ tasks before) (tasks after))
    ⊎ ((HasMet asked old.marks.items (mark_of taken) × (new.marks.items ≡ old.marks.items)
    × (tasks after ≡ others_of taken ++ tasks before))
    ⊎ (MayMark (mark_of taken) old.marks.items new.marks.items
    × TakenOn asked item text (mark_of taken) old.marks.items (others_of taken ++ tasks before) (tasks after)))

-- what comes of the first of some ways that have met all items: it is handed out, unless one like it was
abbrev pub HandedOut : List Bool → Ahead → (old new : Seen) → (out given : List Way) → Type 0
HandedOut asked taken old new out given =
    (MayMark (mark_of taken) old.marks.items new.marks.items × (given ≡ out ++ (mark_of taken).way ∷ []))
    ⊎ (HasMet asked old.marks.items (mark_of taken) × (new.marks.items ≡ old.marks.items) × (given ≡ out))

-- from each way that is marked no way leads through the items that are left
abbrev pub LeadNowhere : List Node → List ℕ → List Mark → Type 0
LeadNowhere items text [] = Unit {0}
LeadNowhere items text (mark ∷ marks) =
    (ways (sequence_of (drop mark.done items)) text mark.way.0 mark.way.1 ≡ []) × LeadNowhere items text marks
