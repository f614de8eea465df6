-- Where letters are after a line has come in or gone out or two blocks have changed places, and which mark one of the first lines.
use Rattle.std.specs.Prelude.{ℕ, ◌+◌, ◌-◌, List, Bool, true, false, if◌then◌else◌, map, nat_eq, nat_lt, Option, Some, None, slice_index_or}
use Rattle.line_store.specs.Marks.{all_letters}

-- where a letter is after a line has come in with it or without it
abbrev pub opened : (at : ℕ) → Bool → Option ℕ → Option ℕ
opened at true place = Some at
opened at false None = None
opened at false (Some place) = if nat_lt place at then Some place else Some (place + 1)

-- where the letters are after a line has come in with these letters
abbrev pub with_line : (at : ℕ) → List Bool → List (Option ℕ) → List (Option ℕ)
with_line at letters marks = map (λ letter. opened at (slice_index_or letters letter false) (slice_index_or marks letter None)) all_letters

-- where a letter is after a line has gone out
abbrev pub closed : (at : ℕ) → Option ℕ → Option ℕ
closed at None = None
closed at (Some place) = if nat_eq place at then None else if nat_lt place at then Some place else Some (place - 1)

-- where the letters are after a line has gone out
abbrev pub without_line : (at : ℕ) → List (Option ℕ) → List (Option ℕ)
without_line at marks = map (λ letter. closed at (slice_index_or marks letter None)) all_letters

-- where a letter is, if that is one of the first so many lines
abbrev pub below : (count : ℕ) → Option ℕ → Option ℕ
below count None = None
below count (Some place) = if nat_lt place count then Some place else None

-- where the letters are that mark one of the first so many lines
abbrev pub places_below : (count : ℕ) → List (Option ℕ) → List (Option ℕ)
places_below count marks = map (λ letter. below count (slice_index_or marks letter None)) all_letters

-- where a letter is after the lines from place `low` up to `middle` and those from there up to `high` have changed places
abbrev pub place_swapped : (low middle high : ℕ) → Option ℕ → Option ℕ
place_swapped low middle high None = None
place_swapped low middle high (Some place) =
    if nat_lt place low then Some place else if nat_lt place middle then Some (place + (high - middle))
    else if nat_lt place high then Some (place - (middle - low)) else Some place

-- where the letters are then
abbrev pub places_swapped : (low middle high : ℕ) → List (Option ℕ) → List (Option ℕ)
places_swapped low middle high marks = map (λ letter. place_swapped low middle high (slice_index_or marks letter None)) all_letters

-- where the letters are after the lines from place `from` up to `to` of so many have given way to others, which no letter marks
abbrev pub places_exchanged : (from to count entered : ℕ) → List (Option ℕ) → List (Option ℕ)
places_exchanged from to count entered marks =
    places_swapped from (count - (to - from)) (count - (to - from) + entered) (places_below (count - (to - from)) (places_swapped from to count marks))
