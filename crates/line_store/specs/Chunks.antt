-- Lines in chunks, each of which holds up to so many.
use Rattle.std.specs.Prelude.{ℕ, zero, suc, ◌+◌, ◌-◌, ◌*◌, ◌^◌, ◌<◌, ◌≤◌, ◌≡◌, List, [], ◌∷◌, ◌++◌, length, min, slice_index_or, slice_set}
use Rattle.ed_base.specs.Buffer.{Line}
use Rattle.line_store.specs.Starts.{StartsValue}

-- how many lines a chunk holds when it is full
abbrev pub full : ℕ
full = 1024

-- the lines of all chunks, in order
abbrev pub joined : {X : Type 0} → List (List X) → List X
joined [] = []
joined (chunk ∷ chunks) = chunk ++ joined chunks

-- how many lines stand before a chunk
abbrev pub lines_before : {X : Type 0} → (k : ℕ) → List (List X) → ℕ
lines_before zero chunks = 0
lines_before (suc k) [] = 0
lines_before (suc k) (chunk ∷ chunks) = length chunk + lines_before k chunks

-- the chunks, each as its lines
pub record ChunksValue : Type 0 where
  pub chunks : List (List Line)

-- other lines in a chunk
abbrev pub with_chunk : (k : ℕ) → List Line → ChunksValue → ChunksValue
with_chunk k chunk v = record { chunks = slice_set v.chunks k chunk }

-- for how many lines there is room
abbrev pub room_among : List (List Line) → ℕ
room_among chunks = min (full * length chunks - length (joined chunks)) (2 ^ 64 - 1 - length (joined chunks))

-- how many lines stand before each chunk
abbrev pub Starts : List ℕ → List (List Line) → Type 0
Starts offsets chunks = (k : ℕ) → k < length chunks → slice_index_or offsets k 0 ≡ lines_before k chunks

-- how many lines there are, and how many stand before each chunk
pub record Known (count : ℕ) (starts : StartsValue) (chunks : List (List Line)) : Type 0 where
  pub all : count ≡ length (joined chunks)
  pub room : length chunks ≤ starts.room
  pub long : length starts.starts ≡ length chunks
  pub before : Starts starts.starts chunks

-- a line stands in a chunk
pub record StandsIn (i k : ℕ) (chunks : List (List Line)) : Type 0 where
  pub chunk : k < length chunks
  pub low : lines_before k chunks ≤ i
  pub high : i < lines_before k chunks + length (slice_index_or chunks k [])

-- a place is in a chunk, or at an end of it
pub record Touches (at k : ℕ) (chunks : List (List Line)) : Type 0 where
  pub chunk : k < length chunks
  pub low : lines_before k chunks ≤ at
  pub high : at ≤ lines_before k chunks + length (slice_index_or chunks k [])

-- a line may come in there, in this chunk
abbrev pub Fits : (at k : ℕ) → List (List Line) → Type 0
Fits at k chunks = Touches at k chunks × (length (slice_index_or chunks k []) < full)

-- a chunk was split in two, of which the first keeps so many lines
pub record Split (k keep : ℕ) (chunks split : List (List Line)) : Type 0 where
  pub same : joined split ≡ joined chunks
  pub no_fewer : length chunks ≤ length split
  pub chunk : k + 1 < length split
  pub before : lines_before k split ≡ lines_before k chunks
  pub lower : length (slice_index_or split k []) ≡ keep
  pub upper : length (slice_index_or split (k + 1) []) + keep ≡ length (slice_index_or chunks k [])
