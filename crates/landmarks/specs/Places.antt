-- Where the landmarks of a chain are in a file's lines (our own). Lines count from 1, and line 0 stands before the first one.
use Rattle.std.specs.Prelude.{◌≡◌, ℕ, ◌+◌, ◌-◌, ◌<◌, ◌≤◌, Bool, true, false, List, [], ◌∷◌, length, All, slice_index_or}
use Rattle.ed_syntax.specs.meaning.Values.{matches}
use Rattle.landmarks.specs.declared.which.Which.{Which}
use Rattle.landmarks.specs.declared.which.Which.TheVariants.{First, Only, Numbered}
use Rattle.landmarks.specs.declared.landmark.Landmark.{Landmark}

-- a line of a file, by its number
abbrev pub line_of : (lines : List (List ℕ)) → (number : ℕ) → List ℕ
line_of lines number = slice_index_or lines (number - 1) []

-- a test fails at each line after line a, up to line b
abbrev pub NonePasses : (test : List ℕ → Bool) → (lines : List (List ℕ)) → (a b : ℕ) → Type 0
NonePasses test lines a b = (number : ℕ) → a < number → number ≤ b → test (line_of lines number) ≡ false

-- no line after line a, up to line b, matches a pattern
abbrev pub NoneMatches : (lines : List (List ℕ)) → (a b : ℕ) → (pattern : List ℕ) → Type 0
NoneMatches lines a b pattern = NonePasses (matches pattern) lines a b

abbrev pub Matches : (lines : List (List ℕ)) → (number : ℕ) → (pattern : List ℕ) → Type 0
Matches lines number pattern = matches pattern (line_of lines number) ≡ true

abbrev pub Differs : (lines : List (List ℕ)) → (number : ℕ) → (pattern : List ℕ) → Type 0
Differs lines number pattern = matches pattern (line_of lines number) ≡ false

-- The first line below line `before` that matches a pattern.
pub record IsFirstBelow (lines : List (List ℕ)) (pattern : List ℕ) (before place : ℕ) : Type 0 where
  pub below : before < place
  pub matched : Matches lines place pattern
  pub first : NoneMatches lines before (place - 1) pattern

-- it is the line that is looked for: the first below the one before that matches, or that of a number
abbrev pub IsSought : (lines : List (List ℕ)) → Which → (before place : ℕ) → Type 0
IsSought lines (First pattern) before place = IsFirstBelow lines pattern before place
IsSought lines (Only pattern) before place = IsFirstBelow lines pattern before place
IsSought lines (Numbered number) before place = place ≡ number

-- no other line matches, where there should be none
abbrev pub IsAlone : (lines : List (List ℕ)) → Which → (place : ℕ) → Type 0
IsAlone lines (Only pattern) place = NoneMatches lines 0 (place - 1) pattern × NoneMatches lines place (length lines) pattern
IsAlone lines _ place = Unit {0}

-- The line of a landmark is as far from the one before, and from the last one, as it is said.
pub record HasDistances (last before : ℕ) (landmark : Landmark) (place : ℕ) : Type 0 where
  pub below : before < place
  pub inside : place ≤ last
  pub gap : before + landmark.gap ≤ place
  pub tail : place + landmark.tail ≤ last

-- The landmark is at this line, where the one before it is at line `before`.
pub record IsAt (lines : List (List ℕ)) (before : ℕ) (landmark : Landmark) (place : ℕ) : Type 0 where
  pub sought : IsSought lines landmark.which before place
  pub distances : HasDistances (length lines) before landmark place
  pub alone : IsAlone lines landmark.which place
  pub also : All (Matches lines place) landmark.also
  pub lacks : All (Differs lines place) landmark.lacks
  pub none : All (NoneMatches lines before (place - 1)) landmark.none

-- The landmarks of a chain are at these lines, each below the one before it, and the first below line `before`.
pub data AreAt (lines : List (List ℕ)) : (before : ℕ) → List Landmark → (places : List ℕ) → Type 0 where
  over : (before : ℕ) → AreAt lines before [] []
  next : (before place : ℕ) (landmark : Landmark) (chain : List Landmark) (places : List ℕ) → IsAt lines before landmark place →
      AreAt lines place chain places → AreAt lines before (landmark ∷ chain) (place ∷ places)

-- the line of the last of these places, or the one before them all
abbrev pub last_of : (before : ℕ) → (places : List ℕ) → ℕ
last_of before [] = before
last_of before (place ∷ places) = last_of place places
