-- Parts and pieces of a text, read backwards.
use Rattle.std.specs.Prelude.{◌≡◌, ℕ, ◌+◌, ◌-◌, ◌<◌, ◌≤◌, Bool, true, List, length, slice_get}
use Rattle.bre_match.specs.Parts.{Part, Reaches}

-- a piece of a text, from one place to another, with its last byte first; and whether it begins and ends where the text does
pub record IsPiece (text piece : List ℕ) (low high : ℕ) (starts ends : Bool) : Type 0 where
  pub order : low ≤ high
  pub within : high ≤ length text
  pub size : length piece ≡ high - low
  pub bytes : (place : ℕ) → low ≤ place → place < high → slice_get piece (high - (place + 1)) ≡ slice_get text place
  pub at_start : starts ≡ true → low ≡ 0
  pub from_start : low ≡ 0 → starts ≡ true
  pub at_end : ends ≡ true → high ≡ length text
  pub to_end : high ≡ length text → ends ≡ true

-- What a part reaches in a piece of a text another part reaches in the piece read backwards, and nothing else.
pub record Backwards (starts ends : Bool) (part back : Part) : Type 0 where
  pub back_there : (text piece : List ℕ) (low high : ℕ) → IsPiece text piece low high starts ends → (p q : ℕ) → low ≤ p → q ≤ high → Reaches part text p q → Reaches back piece (high - q) (high - p)
  pub forth_there : (text piece : List ℕ) (low high : ℕ) → IsPiece text piece low high starts ends → (i j : ℕ) → j ≤ high - low → Reaches back piece i j → Reaches part text (high - j) (high - i)
