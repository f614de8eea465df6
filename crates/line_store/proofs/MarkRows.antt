-- Worked rows of letters whose lines move.
use Rattle.std.specs.Prelude.{◌≡◌, refl, true, false, List, [], ◌∷◌, map, Some, None, codes}
use Rattle.ed_base.specs.Buffer.{Line, plain_line, marked_at}
use Rattle.line_store.specs.Marks.{marks_of, lettered}
use Rattle.line_store.specs.Shifts.{opened, closed}

-- a line comes in at place 2: letters before it stay, those from there on move
line_in : map (λ place. opened 2 false (Some place)) (1 ∷ 2 ∷ 3 ∷ []) ≡ Some 1 ∷ Some 3 ∷ Some 4 ∷ []
line_in = refl

-- and the line's own letters are there
letter_in : opened 2 true None ≡ Some 2
letter_in = refl

-- the line at place 2 goes out: its letters mark nothing, those after it move
line_out : map (λ place. closed 2 (Some place)) (1 ∷ 2 ∷ 3 ∷ []) ≡ Some 1 ∷ None ∷ Some 2 ∷ []
line_out = refl

-- three lines, of which `b` marks the second and `c` the third
abbrev marked : List Line
marked = marked_at 2 2 (marked_at 1 1 (map plain_line (codes "x" ∷ codes "y" ∷ codes "z" ∷ [])))

letters_are_read_off : lettered (marks_of marked) 0 (map plain_line (codes "x" ∷ codes "y" ∷ codes "z" ∷ [])) ≡ marked
letters_are_read_off = refl

-- what a later mark did is undone by the places that were kept before it
later_mark_is_forgotten : lettered (marks_of marked) 0 (marked_at 0 1 marked) ≡ marked
later_mark_is_forgotten = refl
