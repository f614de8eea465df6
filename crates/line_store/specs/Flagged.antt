-- The first line from a place on that has the flag.
use Rattle.std.specs.Prelude.{ℕ, ◌<◌, ◌≤◌, ◌≡◌, List, [], true, false, length, slice_index_or}
use Rattle.ed_base.specs.Buffer.{Line, plain_line}

-- the first place from `from` on where a line has the flag, or the number of lines where none has it
pub record FirstFlagged (from place : ℕ) (lines : List Line) : Type 0 where
  pub low : from ≤ place
  pub high : place ≤ length lines
  pub none : (i : ℕ) → from ≤ i → i < place → (slice_index_or lines i (plain_line [])).flag ≡ false
  pub flagged : place < length lines → (slice_index_or lines place (plain_line [])).flag ≡ true
