-- Ways and turns of which nothing comes: whatever is taken up after them, one step after another, no way meets all items.
use Rattle.std.specs.Prelude.{ℕ, zero, suc, ◌+◌, ◌<◌, true, false, List, [], ◌∷◌, map, flat_map, length, drop, nat_eq, nat_le}
use Rattle.bre_parse.specs.declared.tree.Node.{Node}
use Rattle.bre_parse.specs.Tree.{Tree, Empty, Repeat, tree_of}
use Rattle.bre_parse.specs.Groups.{cleared, no_groups}
use Rattle.bre_parse.specs.Ways.{Way, ways, by_end, next_turn, below}
use Rattle.bre_match.specs.Turns.{turn_if, after_way}
use Rattle.bre_match.specs.declared.outlook.Outlook.{Outlook}
use Rattle.bre_match.specs.declared.seen.Mark.{Mark}
use Rattle.bre_match.specs.declared.turn.Turn.{Turn}
use Rattle.bre_match.specs.declared.turn.Turn.TheVariants as turn

-- where a search stands that keeps no order: at a way before an item, at what is left to do in the repeat, or at a turn that begins
pub data Stage : Type 0 where
  Before : (item : ℕ) → Way → Stage
  Within : Turn → Stage
  Begun : Mark → Stage

-- the first of some parts, or nothing
abbrev pub first_part : List Node → Tree
first_part [] = Empty
first_part (part ∷ parts) = tree_of part

-- what the ways of a turn leave to do
abbrev pub after_begun : Tree → List ℕ → Mark → List Turn
after_begun (Repeat least most content) text mark =
    flat_map (after_way least mark.done mark.way.0) (next_turn (below mark.done most) (ways content text) mark.way.0 mark.way.1)
after_begun _ text mark = []

-- After so many turns a repeat ends, if they are enough, or begins one more, with the groups inside it unset.
abbrev pub ended_or_begun : Tree → (done : ℕ) → Way → List Stage
ended_or_begun (Repeat least most content) done way =
    Begun (record { done = done; way = (way.0, cleared content way.1) }) ∷ map Within (turn_if (nat_le least done) (turn.Ended way))
ended_or_begun _ done way = []

-- where the search stands next, if the item at `at` is the repeat
abbrev pub next_stages : List Node → (at : ℕ) → List ℕ → Stage → List Stage
next_stages items at text (Before item way) =
    elim (nat_eq item at) [
      | true ↦ Within (turn.Next 0 way) ∷ []
      | false ↦ map (Before (item + 1)) (by_end (ways (first_part (drop item items)) text way.0 way.1))
    ]
next_stages items at text (Within (turn.Ended way)) = Before (at + 1) way ∷ []
next_stages items at text (Within (turn.Next done way)) = ended_or_begun (first_part (drop at items)) done way
next_stages items at text (Begun mark) = map Within (after_begun (first_part (drop at items)) text mark)

-- each one in a list is so
abbrev pub Each : {X : Type 0} → (X → Type 0) → List X → Type 0
Each Is [] = Unit {0}
Each Is (x ∷ xs) = Is x × Each Is xs

abbrev pub IsRepeat : Tree → Type 0
IsRepeat (Repeat least most content) = Unit {0}
IsRepeat _ = ⊥

-- some item is left, and turns are those of a repeat
abbrev pub HasItem : List Node → (at : ℕ) → Stage → Type 0
HasItem items at (Before item way) = item < length items
HasItem items at (Within (turn.Next done way)) = IsRepeat (first_part (drop at items))
HasItem items at _ = Unit {0}

-- within so many steps no way meets all items
abbrev pub NothingWithin : (steps : ℕ) → List Node → (at : ℕ) → List ℕ → Stage → Type 0
NothingWithin zero items at text stage = Unit {0}
NothingWithin (suc steps) items at text stage =
    HasItem items at stage × Each (NothingWithin steps items at text) (next_stages items at text stage)

-- nothing comes of the ways and turns that were taken up, within so many steps
abbrev pub NothingOfSeen : (steps : ℕ) → List Node → List ℕ → Outlook → Type 0
NothingOfSeen steps items text outlook =
    Each (λ mark. NothingWithin steps items outlook.at text (Before mark.done mark.way)) outlook.met.marks.items
    × Each (λ mark. NothingWithin steps items outlook.at text (Begun mark)) outlook.begun.marks.items

-- nothing comes of them at all
abbrev pub NothingComes : List Node → List ℕ → Outlook → Type 0
NothingComes items text outlook = (steps : ℕ) → NothingOfSeen steps items text outlook

-- Where nothing comes of what is left within so many steps, nothing comes of the start, nor of what was taken up within one step more.
abbrev pub LeftTells : List Node → List ℕ → (start : ℕ) → Outlook → (ways : List (ℕ × Way)) → List Turn → Type 0
LeftTells items text start outlook ways turns =
    (steps : ℕ) → Each (λ way. NothingWithin steps items outlook.at text (Before way.0 way.1)) ways
    → Each (λ turn. NothingWithin steps items outlook.at text (Within turn)) turns
    → NothingWithin steps items outlook.at text (Before 0 (start, no_groups)) × NothingOfSeen (suc steps) items text outlook
