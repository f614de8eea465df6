-- The tables by which the groups of a match are read off.
use Rattle.std.specs.Prelude.{◌≡◌, ℕ, ◌+◌, ◌-◌, ◌<◌, ◌≤◌, true, false, List, length, drop, Option, Some, None, slice_get, Vec}
use Rattle.std.specs.declared.alloc.Global.{Global}
use Rattle.bre_parse.specs.declared.tree.Node.{Node}
use Rattle.bre_parse.specs.Tree.{Tree, tree_of, sequence_of}
use Rattle.bre_parse.specs.Groups.{refers}
use Rattle.bre_parse.specs.WellFormed.{repeats_in_order}
use Rattle.bre_parse.specs.Ways.{below}
use Rattle.bre_match.specs.Parts.{Part, Power, Reaches, part_of}
use Rattle.bre_match.specs.Ends.{LastEnds}

-- so many turns are no more than the most
abbrev pub Within : Option ℕ → ℕ → Type 0
Within None turns = Unit {0}
Within (Some most) turns = turns ≤ most

-- Further turns lead from a place to another, enough and not too many with those that are done.
abbrev pub Turned : (turn : ℕ → ℕ → Type 0) → (least : ℕ) → Option ℕ → (done p q : ℕ) → Type 0
Turned turn least most done p q = (k : ℕ) × (least ≤ done + k) × Within most (done + k) × Power turn k p q

-- The table of an item of a row, for a match of the row that ends at the piece's end.
abbrev pub RowTable : List Node → List ℕ → (low high item : ℕ) → List (Option ℕ) → Type 0
RowTable items text low high item table =
    (node : Node) → slice_get items item ≡ Some node →
    LastEnds (part_of (tree_of node)) (λ place. Reaches (part_of (sequence_of (drop (item + 1) items))) text place high) text low high table

-- the tables of a row's items, the last one's first, after an empty one
pub record IsRow (items : List Node) (text : List ℕ) (low high : ℕ) (tables : List (Vec (Option ℕ) Global)) : Type 0 where
  pub size : length tables ≡ length items + 1
  pub each : (item : ℕ) (table : Vec (Option ℕ) Global) → item < length items → slice_get tables (length items - item) ≡ Some table → RowTable items text low high item table.items

-- The table of the turn with so many done, for a match of the repeat that ends at the piece's end.
abbrev pub TurnTable : Part → (least : ℕ) → (most : Option ℕ) → List ℕ → (low high done : ℕ) → List (Option ℕ) → Type 0
TurnTable content least most text low high done table =
    LastEnds content (λ place. (below done most ≡ true) × Turned (Reaches content text) least most (done + 1) place high) text low high table

-- how many turns have a table of their own
abbrev pub told_turns : (least : ℕ) → (most : Option ℕ) → ℕ
told_turns least None = least
told_turns least (Some most) = most

-- the tables of a repeat's turns, the last one's first, after one for all further turns
pub record IsTurns (content : Part) (least : ℕ) (most : Option ℕ) (text : List ℕ) (low high : ℕ) (tables : List (Vec (Option ℕ) Global)) : Type 0 where
  pub size : length tables ≡ told_turns least most + 1
  pub each : (done : ℕ) (table : Vec (Option ℕ) Global) → slice_get tables (told_turns least most - done) ≡ Some table → TurnTable content least most text low high done table.items

-- what is asked of a part whose groups are read off between two places: it has no back-reference, and leads there
pub record LeadsThere (tree : Tree) (text : List ℕ) (low high : ℕ) : Type 0 where
  pub free : refers tree ≡ false
  pub in_order : repeats_in_order tree ≡ true
  pub within : high ≤ length text
  pub there : Reaches (part_of tree) text low high
