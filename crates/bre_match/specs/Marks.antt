-- The marks of a part in a row.
use Rattle.std.specs.Prelude.{ℕ, List, [], ◌∷◌, Option, None, ◌++◌}
use Rattle.bre_match.specs.declared.column.Asked.{Asked}
use Rattle.bre_match.specs.declared.column.Asked.TheVariants as kind
use Rattle.bre_match.specs.Parts.{AtEnd, AtStart, Both, Maybe, Never, Nothing, One, Part, Star}

abbrev pub first_mark : List (Option ℕ) → Option ℕ
first_mark [] = None
first_mark (mark ∷ marks) = mark

abbrev pub other_marks : List (Option ℕ) → List (Option ℕ)
other_marks [] = []
other_marks (mark ∷ marks) = marks

-- the marks after those of a part
abbrev pub past : Part → List (Option ℕ) → List (Option ℕ)
past (One negated ranges mark) marks = other_marks marks
past (Both first rest) marks = past rest (past first marks)
past (Maybe content) marks = past content marks
past (Star content) marks = past content marks
past _ marks = marks

-- a part with the marks of a row
abbrev pub fill : Part → List (Option ℕ) → Part
fill Nothing marks = Nothing
fill Never marks = Never
fill (One negated ranges mark) marks = One negated ranges (first_mark marks)
fill AtStart marks = AtStart
fill AtEnd marks = AtEnd
fill (Both first rest) marks = Both (fill first marks) (fill rest (past first marks))
fill (Maybe content) marks = Maybe (fill content marks)
fill (Star content) marks = Star (fill content marks)

-- the marks of a part in a row
abbrev pub marks_of : Part → List (Option ℕ)
marks_of (One negated ranges mark) = mark ∷ []
marks_of (Both first rest) = marks_of first ++ marks_of rest
marks_of (Maybe content) = marks_of content
marks_of (Star content) = marks_of content
marks_of _ = []

-- marks, if they are asked for
abbrev pub asked_for : Asked → List (Option ℕ) → List (Option ℕ)
asked_for kind.Weight marks = []
asked_for kind.Marks marks = marks
