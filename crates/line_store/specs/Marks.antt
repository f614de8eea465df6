-- Where each letter's line is, and the letters of each line told from that.
use Rattle.std.specs.Prelude.{ℕ, suc, ◌≡◌, ◌<◌, List, [], ◌∷◌, Bool, false, map, nat_eq, Option, Some, None, slice_index_or}
use Rattle.std.specs.List.{range_with_len}
use Rattle.ed_base.specs.Buffer.{Line, marked_place}

-- each letter from `a` to `z`
abbrev pub all_letters : List ℕ
all_letters = range_with_len 0 26

-- the place of each letter's line, counted from 0
abbrev pub marks_of : List Line → List (Option ℕ)
marks_of lines = map (λ letter. marked_place letter lines) all_letters

-- the place is this one
abbrev pub is_at : (place : ℕ) → Option ℕ → Bool
is_at place None = false
is_at place (Some other) = nat_eq other place

-- whether each letter marks the line at a place
abbrev pub letters_at : (place : ℕ) → List (Option ℕ) → List Bool
letters_at place marks = map (λ letter. is_at place (slice_index_or marks letter None)) all_letters

-- lines from a place on, with just the letters whose place is theirs
abbrev pub lettered : List (Option ℕ) → (place : ℕ) → List Line → List Line
lettered marks place [] = []
lettered marks place (line ∷ lines) = record line { letters = letters_at place marks } ∷ lettered marks (suc place) lines

-- each letter that has a place has one below this
abbrev pub AllBelow : ℕ → List (Option ℕ) → Type 0
AllBelow count marks = (letter place : ℕ) → slice_index_or marks letter None ≡ Some place → place < count
