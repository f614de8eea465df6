-- The states of an automaton: what the marks of a column come to where their weights are told apart no more.
use Rattle.std.specs.Prelude.{ℕ, Bool, true, false, List, [], ◌∷◌, Option, Some, None, is_some, if◌then◌else◌}
use Rattle.bre_match.specs.declared.state.Starts.{Starts}
use Rattle.bre_match.specs.declared.state.Starts.TheVariants as kind
use Rattle.bre_match.specs.Parts.{Part, One, Both}
use Rattle.bre_match.specs.Columns.{peek, step}
use Rattle.bre_match.specs.Marks.{first_mark, other_marks, fill, marks_of}

-- Each start enters with one weight, so that a mark says only that some start leads to it.
abbrev pub any_start : ℕ → Option ℕ
any_start place = Some 0

-- The part that an automaton goes through. Where only the first place is a start, a set comes before it that has no byte, so that no
-- place enters but the one at which that set is marked.
abbrev pub part_for : Starts → Part → Part
part_for kind.Every part = part
part_for kind.First part = Both (One false [] None) part

-- the row of the first states: no marks, or the mark of the set that comes first
abbrev pub first_row : Starts → List (Option ℕ)
first_row kind.Every = []
first_row kind.First = Some 0 ∷ []

-- the weight with which one enters the pattern's own part, its row, and the marks that come before those of the next place
abbrev pub own_weight : Starts → List (Option ℕ) → Option ℕ
own_weight kind.Every row = Some 0
own_weight kind.First row = first_mark row

abbrev pub own_row : Starts → List (Option ℕ) → List (Option ℕ)
own_row kind.Every row = row
own_row kind.First row = other_marks row

abbrev pub marks_before : Starts → List (Option ℕ)
marks_before kind.Every = []
marks_before kind.First = None ∷ []

-- no byte set is marked
abbrev pub none_marked : List (Option ℕ) → Bool
none_marked [] = true
none_marked (None ∷ marks) = none_marked marks
none_marked (Some weight ∷ marks) = false

-- A state has the marks of a column, or none at all where no set is marked.
abbrev pub as_state : List (Option ℕ) → List (Option ℕ)
as_state marks = if none_marked marks then [] else marks

-- The transition from a state at a place of a text: whether a match ends there, and the next state.
abbrev pub transition : Part → (state : List (Option ℕ)) → List ℕ → (place : ℕ) → Bool × List (Option ℕ)
transition part state text place =
    (is_some (peek (fill part state) text place (Some 0)), as_state (marks_of (step (fill part state) text place (Some 0))))
