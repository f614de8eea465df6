-- What a store holds.
use Rattle.std.specs.Prelude.{ℕ, ◌<◌, ◌≡◌, List, [], Option, false, count_by, slice_index_or}
use Rattle.ed_base.specs.Buffer.{Line, plain_line}
use Rattle.line_store.specs.Marks.{lettered}

-- its lines without letters, and the place of each letter's line
pub record StoreValue : Type 0 where
  pub items : List Line
  pub marks : List (Option ℕ)

-- its lines
abbrev pub lines_of : StoreValue → List Line
lines_of v = lettered v.marks 0 v.items

-- how many lines have the flag
abbrev pub flag_count : List Line → ℕ
flag_count lines = count_by (λ line. line.flag) lines

-- no line before this place has the flag
abbrev pub Unflagged : (place : ℕ) → List Line → Type 0
Unflagged place lines = (i : ℕ) → i < place → (slice_index_or lines i (plain_line [])).flag ≡ false
