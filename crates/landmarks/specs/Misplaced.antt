-- Which landmark of a chain isn't where it should be, and why (our own).
use Rattle.std.specs.Prelude.{◌≡◌, ◌≢◌, ◌⊎◌, ℕ, ◌+◌, ◌-◌, ◌<◌, ◌≤◌, List, ◌∷◌, ◌++◌, length, All}
use Rattle.landmarks.specs.declared.which.Which.{Which}
use Rattle.landmarks.specs.declared.which.Which.TheVariants.{First, Only, Numbered}
use Rattle.landmarks.specs.declared.landmark.Landmark.{Landmark}
use Rattle.landmarks.specs.declared.misplaced.Misfit.{Misfit}
use Rattle.landmarks.specs.declared.misplaced.Misfit.TheVariants.{Missing, Beyond, Near, Late, Repeated, Unmatched, Matched, Between}
use Rattle.landmarks.specs.declared.misplaced.Misplaced.{Misplaced}
use Rattle.landmarks.specs.Places.{Matches, Differs, NoneMatches, IsSought, IsAlone, HasDistances, AreAt, last_of}

-- no line below the one before matches the pattern that is looked for
abbrev pub IsNowhere : (lines : List (List ℕ)) → Which → (before : ℕ) → Type 0
IsNowhere lines (First pattern) before = NoneMatches lines before (length lines) pattern
IsNowhere lines (Only pattern) before = NoneMatches lines before (length lines) pattern
IsNowhere lines (Numbered number) before = ⊥

-- the file has no line of the number that is looked for, which is this one
abbrev pub IsBeyond : (lines : List (List ℕ)) → Which → (sought : ℕ) → Type 0
IsBeyond lines (Numbered number) sought = (sought ≡ number) × (length lines < number)
IsBeyond lines _ sought = ⊥

-- What is wrong with the distances of a line.
pub data IsWrongDistance (last before : ℕ) (landmark : Landmark) (place : ℕ) : Misfit → Type 0 where
  near : (place ≤ before) ⊎ (place < before + landmark.gap) → IsWrongDistance last before landmark place (Near place)
  late : before < place → before + landmark.gap ≤ place → last < place + landmark.tail →
      IsWrongDistance last before landmark place (Late place)

-- The line that is looked for, and its distances are right.
pub record IsFarEnough (lines : List (List ℕ)) (before : ℕ) (landmark : Landmark) (place : ℕ) : Type 0 where
  pub sought : IsSought lines landmark.which before place
  pub distances : HasDistances (length lines) before landmark place

-- the first line, other than the place, that matches too
abbrev pub IsAnother : (lines : List (List ℕ)) → Which → (place other : ℕ) → Type 0
IsAnother lines (Only pattern) place other =
    (other ≢ place) × (1 ≤ other) × (other ≤ length lines) × Matches lines other pattern ×
    ((number : ℕ) → 1 ≤ number → number < other → number ≢ place → Differs lines number pattern)
IsAnother lines _ place other = ⊥

-- the first of these patterns of which a fact isn't true: it is true of those before it
pub record IsFirstWith (Fails Holds : List ℕ → Type 0) (patterns : List (List ℕ)) (pattern : List ℕ) : Type 0 where
  pub front : List (List ℕ)
  pub rest : List (List ℕ)
  pub cut : patterns ≡ front ++ pattern ∷ rest
  pub earlier : All Holds front
  pub fails : Fails pattern

-- the first line between, of those that match
pub record IsBetween (lines : List (List ℕ)) (before place line : ℕ) (pattern : List ℕ) : Type 0 where
  pub after : before < line
  pub above : line < place
  pub matched : Matches lines line pattern
  pub first : NoneMatches lines before (line - 1) pattern

-- What is wrong with the place of a landmark, where the one before it is at line `before`: the first of these that is so.
pub data IsWrong (lines : List (List ℕ)) (before : ℕ) (landmark : Landmark) : Misfit → Type 0 where
  missing : IsNowhere lines landmark.which before → IsWrong lines before landmark Missing
  beyond : (number : ℕ) → IsBeyond lines landmark.which number → IsWrong lines before landmark (Beyond number)
  far : (place : ℕ) (why : Misfit) → IsSought lines landmark.which before place → place ≤ length lines →
      IsWrongDistance (length lines) before landmark place why → IsWrong lines before landmark why
  repeated : (place other : ℕ) → IsFarEnough lines before landmark place → IsAnother lines landmark.which place other →
      IsWrong lines before landmark (Repeated place other)
  unmatched : (place : ℕ) (pattern : List ℕ) → IsFarEnough lines before landmark place → IsAlone lines landmark.which place →
      IsFirstWith (Differs lines place) (Matches lines place) landmark.also pattern → IsWrong lines before landmark (Unmatched place pattern)
  matched : (place : ℕ) (pattern : List ℕ) → IsFarEnough lines before landmark place → IsAlone lines landmark.which place →
      All (Matches lines place) landmark.also → IsFirstWith (Matches lines place) (Differs lines place) landmark.lacks pattern →
      IsWrong lines before landmark (Matched place pattern)
  between : (place line : ℕ) (pattern : List ℕ) → IsFarEnough lines before landmark place → IsAlone lines landmark.which place →
      All (Matches lines place) landmark.also → All (Differs lines place) landmark.lacks →
      IsFirstWith (IsBetween lines before place line) (NoneMatches lines before (place - 1)) landmark.none pattern →
      IsWrong lines before landmark (Between place line pattern)

-- The first landmark of a chain that isn't where it should be: those before it are.
pub record IsMisplaced (lines : List (List ℕ)) (chain : List Landmark) (wrong : Misplaced) : Type 0 where
  pub front : List Landmark
  pub landmark : Landmark
  pub rest : List Landmark
  pub cut : chain ≡ front ++ landmark ∷ rest
  pub index : length front ≡ wrong.index
  pub places : List ℕ
  pub placed : AreAt lines 0 front places
  pub before : last_of 0 places ≡ wrong.before
  pub why : IsWrong lines wrong.before landmark wrong.why
