-- Where a part ends if what follows it is to reach a given place. In a piece of a text, places are told by their distance
-- from the piece's end.
use Rattle.std.specs.Prelude.{ℕ, zero, suc, ◌+◌, ◌-◌, ◌<◌, ◌≤◌, Bool, ◌&&◌, ◌||◌, List, get_or, Option, Some, None, is_some, nat_eq}
use Rattle.bre_match.specs.Parts.{Part, Reaches}
use Rattle.bre_match.specs.Columns.{where_true, peek, step}

-- Of the ends of a part from which the rest goes on, none or the greatest, by its distance.
abbrev pub LastEnd : Part → (goes_on : ℕ → Type 0) → List ℕ → (high place : ℕ) → Option ℕ → Type 0
LastEnd part goes_on text high place None = (end : ℕ) → end ≤ high → Reaches part text place end → goes_on end → ⊥
LastEnd part goes_on text high place (Some distance) =
    (distance ≤ high) × Reaches part text place (high - distance) × goes_on (high - distance)
    × ((end : ℕ) → high - distance < end → end ≤ high → Reaches part text place end → goes_on end → ⊥)

-- a table has the last end for each place of a piece
abbrev pub LastEnds : Part → (goes_on : ℕ → Type 0) → List ℕ → (low high : ℕ) → List (Option ℕ) → Type 0
LastEnds part goes_on text low high table =
    (place : ℕ) → low ≤ place → place ≤ high → LastEnd part goes_on text high place (get_or table (high - place) None)

-- The rest goes on from this distance: its table has an end there, or it may be nothing and this is the piece's end.
abbrev pub leads_on : (stops : Bool) → List (Option ℕ) → ℕ → Bool
leads_on stops table distance = stops && nat_eq distance 0 || is_some (get_or table distance None)

-- the entries at some places, each with its place as weight
abbrev pub entered : (ℕ → Bool) → ℕ → Option ℕ
entered here place = where_true (here place) (Some place)

-- the column so many places after the first, where one enters at each place with its weight, if it has one
abbrev pub columns : Part → List ℕ → (from : ℕ) → (entry : ℕ → Option ℕ) → ℕ → Part
columns part text from entry zero = part
columns part text from entry (suc n) = step (columns part text from entry n) text (from + n) (entry (from + n))

-- the least weight with which one gets after the part there
abbrev pub out_of : Part → List ℕ → (from : ℕ) → (entry : ℕ → Option ℕ) → ℕ → Option ℕ
out_of part text from entry n = peek (columns part text from entry n) text (from + n) (entry (from + n))
