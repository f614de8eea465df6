-- Worked rows of letters and the lines that they mark.
use Rattle.std.specs.Prelude.{◌≡◌, refl, List, [], ◌∷◌, map, true, false, Some, None, codes}
use Rattle.ed_base.specs.Buffer.{Line, plain_line, texts, letter_of, marked_place, marked_at, flagged_at, flagged_place}

-- `a` is 0 and `z` 25; capital letters mark nothing
letters_of_bytes : map letter_of (codes "az`{AZ") ≡ Some 0 ∷ Some 25 ∷ None ∷ None ∷ None ∷ None ∷ []
letters_of_bytes = refl

-- three lines
abbrev plain : List Line
plain = map plain_line (codes "x" ∷ codes "" ∷ codes "x" ∷ [])

no_line_is_marked : map (λ letter. marked_place letter plain) (0 ∷ 25 ∷ []) ≡ None ∷ None ∷ []
no_line_is_marked = refl

-- places count from 0, and another letter's line is another's
second_line_is_marked : map (λ letter. marked_place letter (marked_at 1 25 plain)) (0 ∷ 25 ∷ []) ≡ None ∷ Some 1 ∷ []
second_line_is_marked = refl

-- the letter leaves the line that it marked, whether that stands after or before
letter_moves_on : marked_at 2 3 (marked_at 0 3 plain) ≡ marked_at 2 3 plain
letter_moves_on = refl

letter_moves_back : marked_at 0 3 (marked_at 2 3 plain) ≡ marked_at 0 3 plain
letter_moves_back = refl

-- two letters mark one line
two_letters_on_one_line : map (λ letter. marked_place letter (marked_at 2 7 (marked_at 2 4 plain))) (4 ∷ 7 ∷ 5 ∷ []) ≡ Some 2 ∷ Some 2 ∷ None ∷ []
two_letters_on_one_line = refl

-- a mark changes no byte
texts_stay : texts (marked_at 1 0 plain) ≡ texts plain
texts_stay = refl

-- the first line that has the flag is told, and the others keep theirs
no_line_is_flagged : flagged_place plain ≡ None
no_line_is_flagged = refl

first_flagged_line : flagged_place (flagged_at 1 true (flagged_at 2 true plain)) ≡ Some 1
first_flagged_line = refl

next_flagged_line : flagged_place (flagged_at 1 false (flagged_at 1 true (flagged_at 2 true plain))) ≡ Some 2
next_flagged_line = refl
