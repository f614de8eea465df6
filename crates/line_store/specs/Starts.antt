-- Where chunks begin among all lines, told from groups of so many chunks.
use Rattle.std.specs.Prelude.{ℕ, ◌+◌, ◌*◌, ◌/◌, ◌^◌, ◌<◌, ◌≤◌, ◌≡◌, List, length, map, slice_index_or}
use Rattle.std.specs.List.{range_with_len}

-- how many chunks are in a group
abbrev pub group : ℕ
group = 32

-- how many lines stand before each chunk, and for how many chunks there is room
pub record StartsValue : Type 0 where
  pub starts : List ℕ
  pub room : ℕ

-- of two rows of numbers the second has one more from place `from` up to `to`, and the same elsewhere
pub record OneMore (from to : ℕ) (few many : List ℕ) : Type 0 where
  pub long : length many ≡ length few
  pub between : (k : ℕ) → from ≤ k → k < to → slice_index_or many k 0 ≡ slice_index_or few k 0 + 1
  pub below : (k : ℕ) → k < from → slice_index_or many k 0 ≡ slice_index_or few k 0
  pub above : (k : ℕ) → to ≤ k → slice_index_or many k 0 ≡ slice_index_or few k 0

-- how many lines stand before each chunk: those before its group, and those before it in its group
abbrev pub in_groups : (groups within : List ℕ) → List ℕ
in_groups groups within = map (λ k. slice_index_or groups (k / group) 0 + slice_index_or within k 0) (range_with_len 0 (length within))

-- each group has a chunk, and begins with the first of its chunks
pub record Grouped (groups within : List ℕ) : Type 0 where
  pub all : length within ≤ group * length groups
  pub used : group * length groups < length within + group
  pub first : (g : ℕ) → slice_index_or within (group * g) 0 ≡ 0
  pub fits : (k : ℕ) → k < length within → slice_index_or groups (k / group) 0 + slice_index_or within k 0 < 2 ^ 64
