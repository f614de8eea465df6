-- Names that number the lines of landmarks, and letters that mark them (our own).
use Rattle.std.specs.Prelude.{◌≡◌, ℕ, ◌+◌, ◌-◌, ◌<◌, pos, List, [], ◌∷◌, ◌++◌, map, length, get_or, All, Contains}
use Rattle.zones.specs.Name.{mark}
use Rattle.zones.specs.Name as name
use Rattle.zones.specs.Zone.{Numbers, updated}
use Rattle.ed_syntax.specs.meaning.Erasure.{Marks}
use Rattle.landmarks.specs.declared.landmark.Landmark.{Landmark}
use Rattle.landmarks.specs.Places.{AreAt}

-- The landmarks of several chains are at these lines, the chains one after another.
pub data AreEachAt (lines : List (List ℕ)) : List (List Landmark) → (places : List ℕ) → Type 0 where
  over : AreEachAt lines [] []
  next : (chain : List Landmark) (chains : List (List Landmark)) (own places : List ℕ) → AreAt lines 0 chain own →
      AreEachAt lines chains places → AreEachAt lines (chain ∷ chains) (own ++ places)

-- each place is the number of a name, in their order
abbrev pub AreNumbered : Numbers → (names places : List ℕ) → Type 0
AreNumbered number names [] = Unit {0}
AreNumbered number [] (place ∷ places) = ⊥
AreNumbered number (name ∷ names) (place ∷ places) = (name < 32) × (number name ≡ pos place) × AreNumbered number names places

-- letters as marks of these lines
abbrev pub marks_at : (letters places : List ℕ) → Marks
marks_at [] places = []
marks_at (letter ∷ letters) [] = []
marks_at (letter ∷ letters) (place ∷ places) = (letter, place - 1) ∷ marks_at letters places

-- the numbers of all names before a letter marks a line: that of 0, and for all others the number of lines
abbrev pub unmarked_numbers : (count : ℕ) → Numbers
unmarked_numbers count = updated (λ x. pos count) name.zero (pos 0)

-- the numbers of all names where letters mark these lines of so many
abbrev pub numbers_at : (letters places : List ℕ) → (count : ℕ) → Numbers
numbers_at [] places count = unmarked_numbers count
numbers_at (letter ∷ letters) [] count = unmarked_numbers count
numbers_at (letter ∷ letters) (place ∷ places) count = updated (numbers_at letters places count) (mark letter) (pos place)

-- Letters mark lines of a file, which are these places, and numbers are those of its names when it was just read.
pub record AreMarked (file : List (List ℕ)) (letters places : List ℕ) (marks : Marks) (number : Numbers) : Type 0 where
  pub inside : All (λ one. (one.0 < 26) × (one.1 < length file)) marks
  pub zero_is : number name.zero ≡ pos 0
  pub current_is : number name.current_line ≡ pos (length file)
  pub last_is : number name.last_line ≡ pos (length file)
  pub numbered : AreNumbered number (map mark letters) places
  pub marks_are : (letter : ℕ) → Contains letters letter → (index : ℕ) × (index < length marks)
      × ((get_or marks index (0, 0)).0 ≡ letter) × (number (mark letter) ≡ pos ((get_or marks index (0, 0)).1 + 1))
