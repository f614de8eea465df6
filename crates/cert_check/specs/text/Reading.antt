-- How a text is read: what the functions that read it answer.
use Rattle.std.specs.Prelude.{◌≡◌, ◌≢◌, ℕ, ◌<◌, ◌≤◌, ◌^◌, ◌/◌, ◌%◌, ◌⊎◌, ℤ, Bool, true, not, ◌==◌, List, [], ◌∷◌, ◌++◌, Option, Some, None, codes, replicate, map, All}
use Rattle.std.specs.Fmt.{signed_decimal}
use lib.Signed.{mag}
use Rattle.zones.specs.Bound.{IsKept}
use Rattle.zones.specs.KnownBounds.{PlacedBound}
use Rattle.landmarks.specs.ChainValues.{ChainValue}
use Rattle.landmarks.specs.Spelled.{SpellsChain}
use Rattle.cert_check.specs.text.Text.{Word, Line, space, line_text, name_word, possible}

-- what a line is read as: the value whose line it is, or that there is none
abbrev pub ReadsAs : {A : Type 0} → (spell : A → Line) → (Has : A → Type 0) → (line : List ℕ) → Option A → Type 0
ReadsAs {A} spell Has line (Some v) = (line_text (spell v) ≡ line) × Has v
ReadsAs {A} spell Has line None = (v : A) → Has v → line_text (spell v) ≢ line

-- the same of a word
abbrev pub WordReadsAs : {A : Type 0} → (spell : A → Word) → (Has : A → Type 0) → (word : List ℕ) → Option A → Type 0
WordReadsAs {A} spell Has word (Some v) = (spell v ≡ word) × Has v
WordReadsAs {A} spell Has word None = (v : A) → Has v → spell v ≢ word

-- what undo may find, as its line says it
abbrev pub undo_words_line : (nothing same was : Bool) → Line
undo_words_line nothing same was = codes "undo" ∷ possible nothing (codes "nothing") ++ possible same (codes "same") ++ possible was (codes "was")

-- each of the 26 letters is sure
abbrev pub all_marks : List Bool
all_marks = replicate 26 true

-- words are bytes that aren't spaces
abbrev pub is_in_word : ℕ → Bool
is_in_word byte = not (byte == space)

-- bytes without a space
abbrev pub IsUnspaced : List ℕ → Type 0
IsUnspaced [] = Unit {0}
IsUnspaced (byte ∷ bytes) = (byte ≢ space) × IsUnspaced bytes

-- where a word ends: at the end, or before a space
abbrev pub EndsWord : List ℕ → Type 0
EndsWord [] = Unit {0}
EndsWord (byte ∷ bytes) = byte ≡ space

-- a text is a space, a word, and what is left after the word
abbrev pub IsFirstWord : (text word left : List ℕ) → Type 0
IsFirstWord text word left = (text ≡ space ∷ word ++ left) × (IsUnspaced word × EndsWord left)

-- a number that its type has
abbrev pub IsNumber : ℕ → Type 0
IsNumber n = n < 2 ^ 64

abbrev pub IsSigned : ℤ → Type 0
IsSigned c = mag c < 2 ^ 63

-- a name that texts have
abbrev pub IsNamed : (place : ℕ) → Type 0
IsNamed place = (place < 3) ⊎ (6 ≤ place)

-- what is said of x - y
abbrev pub said_word : (x y : ℕ) → ℤ → Word
said_word x y number = name_word x ++ codes "-" ++ name_word y ++ codes "<=" ++ signed_decimal number

-- a text says a number of x - y, and what is left after it
pub record IsSaid (x y : ℕ) (number : ℤ) (left text : List ℕ) : Type 0 where
  pub row : IsNamed x
  pub column : IsNamed y
  pub signed : IsSigned number
  pub is : (space ∷ said_word x y number) ++ left ≡ text
  pub ends : EndsWord left

-- the word of a bound of x - y that is a number
abbrev pub number_word : (x y : ℕ) → Option ℤ → Word
number_word x y None = []
number_word x y (Some number) = said_word x y number

-- the same of a bound with its place
abbrev pub spoken_word : PlacedBound → Word
spoken_word b = number_word (b.place / 32) (b.place % 32) b.bound

-- a bound that a text may say: a number that zones keep, of two names that texts have
pub record IsSpoken (b : PlacedBound) : Type 0 where
  pub placed : b.place < 1024
  pub number : ℤ
  pub is : b.bound ≡ Some number
  pub kept : IsKept b.bound
  pub row : IsNamed (b.place / 32)
  pub column : IsNamed (b.place % 32)

-- what texts are read as: the chains that they spell, one for each, or that some text spells none
abbrev pub AreChains : (texts : List (List ℕ)) → Option (List ChainValue) → Type 0
AreChains texts (Some chains) =
    (map (λ chain. chain.text) chains ≡ texts) × All (λ chain. SpellsChain chain.text chain.landmarks) chains
AreChains texts None =
    (chains : List ChainValue) → All (λ chain. SpellsChain chain.text chain.landmarks) chains → map (λ chain. chain.text) chains ≢ texts
