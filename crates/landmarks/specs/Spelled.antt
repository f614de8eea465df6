-- Which bytes spell a chain of landmarks (our own).
-- Each names a text, what stands after the part at its head, and what that part means.
use Rattle.std.specs.Prelude.{◌≡◌, ℕ, ◌≤◌, List, [], ◌∷◌, ◌++◌, All, nat_eq, codes, IsFalse}
use Rattle.bre_parse.specs.Always.{text_is_always}
use Rattle.ed_base.specs.Lines.{IsLine}
use Rattle.ed_syntax.specs.spelling.Characters.{ampersand, semicolon_byte, begins, after_blanks}
use Rattle.landmarks.specs.declared.which.Which.{Which}
use Rattle.landmarks.specs.declared.which.Which.TheVariants.{First, Only, Numbered}
use Rattle.landmarks.specs.declared.landmark.Landmark.{Landmark}
use Rattle.ed_base.specs.Texts.{is_member, with_text}
use Rattle.landmarks.specs.Words.{SpellsKey, SpellsWord, SpellsCount, NoWord}

-- Patterns that no line between may match, each after the word `no`; they go into a set, and the last is the set with all of them.
pub data SpellsNone : (set : List (List ℕ)) → (text rest : List ℕ) → (none : List (List ℕ)) → Type 0 where
  over : (set : List (List ℕ)) (text : List ℕ) → NoWord (codes "no") text → SpellsNone set text text set
  next : (set none : List (List ℕ)) (text key more rest pattern : List ℕ) → SpellsWord (codes "no") text key → SpellsKey key more pattern →
      SpellsNone (with_text pattern set) more rest none → SpellsNone set text rest none

-- Which line: the first that matches a pattern, the only one, or the one of a number.
pub data SpellsWhich : (text rest : List ℕ) → Which → Type 0 where
  first : (text rest pattern : List ℕ) → SpellsKey text rest pattern → SpellsWhich text rest (First pattern)
  only : (text key rest pattern : List ℕ) → SpellsWord (codes "only") text key → SpellsKey key rest pattern →
      SpellsWhich text rest (Only pattern)
  numbered : (text rest : List ℕ) (n : ℕ) → SpellsCount text rest n → SpellsWhich text rest (Numbered n)

-- So many lines, after a word; without the word this many.
pub data SpellsDistance (word : List ℕ) (unsaid : ℕ) : (text rest : List ℕ) → ℕ → Type 0 where
  unsaid : (text : List ℕ) → NoWord word text → SpellsDistance word unsaid text text unsaid
  said : (text count rest : List ℕ) (n : ℕ) → SpellsWord word text count → SpellsCount count rest n → SpellsDistance word unsaid text rest n

-- Patterns that the line matches too, each after `&`, and those that it doesn't match, each after `&` and the word `not`. They go into two
-- sets, and the last two are the sets with all of them.
pub data SpellsTests : (also lacks : List (List ℕ)) → (text rest : List ℕ) → (all_also all_lacks : List (List ℕ)) → Type 0 where
  over : (also lacks : List (List ℕ)) (text : List ℕ) → IsFalse (begins (nat_eq ampersand) (after_blanks text)) →
      SpellsTests also lacks text text also lacks
  also : (also lacks : List (List ℕ)) (text key more rest pattern : List ℕ) (all_also all_lacks : List (List ℕ)) →
      after_blanks text ≡ ampersand ∷ key → SpellsKey key more pattern →
      SpellsTests (with_text pattern also) lacks more rest all_also all_lacks → SpellsTests also lacks text rest all_also all_lacks
  lacks : (also lacks : List (List ℕ)) (text word key more rest pattern : List ℕ) (all_also all_lacks : List (List ℕ)) →
      after_blanks text ≡ ampersand ∷ word → SpellsWord (codes "not") word key → SpellsKey key more pattern →
      SpellsTests also (with_text pattern lacks) more rest all_also all_lacks → SpellsTests also lacks text rest all_also all_lacks

-- The parts of a landmark, one after another.
pub record SpellsParts (text rest : List ℕ) (landmark : Landmark) : Type 0 where
  pub after_none : List ℕ
  pub after_which : List ℕ
  pub after_gap : List ℕ
  pub after_tail : List ℕ
  pub none : SpellsNone [] text after_none landmark.none
  pub which : SpellsWhich after_none after_which landmark.which
  pub gap : SpellsDistance (codes "gap") 1 after_which after_gap landmark.gap
  pub tail : SpellsDistance (codes "tail") 0 after_gap after_tail landmark.tail
  pub tests : SpellsTests [] [] after_tail rest landmark.also landmark.lacks

-- the pattern by which the line is looked for
abbrev pub sought_by : Which → List (List ℕ)
sought_by (First pattern) = pattern ∷ []
sought_by (Only pattern) = pattern ∷ []
sought_by (Numbered n) = []

-- the patterns that the line of a landmark matches
abbrev pub matched_by : Landmark → List (List ℕ)
matched_by landmark = sought_by landmark.which ++ landmark.also

-- a pattern isn't seen to match each line
abbrev pub MayDiffer : (pattern : List ℕ) → Type 0
MayDiffer pattern = IsFalse (text_is_always pattern)

-- a pattern that the line of a landmark doesn't match: it is none of those that it matches, and isn't seen to match each line
abbrev pub CanLack : Landmark → (pattern : List ℕ) → Type 0
CanLack landmark pattern = IsFalse (is_member (matched_by landmark) pattern) × MayDiffer pattern

-- the patterns that no line between the landmark before it and it matches
abbrev pub missing_between : Landmark → List (List ℕ)
missing_between landmark = sought_by landmark.which ++ landmark.none

-- where lines stand between the landmark before it and it, none of the patterns that they don't match is seen to match each line
abbrev pub CanLieBelow : Landmark → Type 0
CanLieBelow landmark = 2 ≤ landmark.gap → All MayDiffer (missing_between landmark)

-- Some line may be the landmark, as far as that is seen from its words.
pub record CanBe (landmark : Landmark) : Type 0 where
  pub lacks : All (CanLack landmark) landmark.lacks
  pub below : CanLieBelow landmark

-- A landmark, which some line may be.
pub record SpellsLandmark (text rest : List ℕ) (landmark : Landmark) : Type 0 where
  pub parts : SpellsParts text rest landmark
  pub can_be : CanBe landmark

-- Landmarks with `;` between them, to the end of the text.
pub data SpellsLandmarks : (text : List ℕ) → List Landmark → Type 0 where
  last : (text rest : List ℕ) (landmark : Landmark) → SpellsLandmark text rest landmark → after_blanks rest ≡ [] →
      SpellsLandmarks text (landmark ∷ [])
  next : (text rest more : List ℕ) (landmark : Landmark) (chain : List Landmark) → SpellsLandmark text rest landmark →
      after_blanks rest ≡ semicolon_byte ∷ more → SpellsLandmarks more chain → SpellsLandmarks text (landmark ∷ chain)

-- A text spells a chain. It is one line.
pub record SpellsChain (text : List ℕ) (chain : List Landmark) : Type 0 where
  pub line : IsLine text
  pub landmarks : SpellsLandmarks text chain

-- the text spells no chain
abbrev pub NoChain : List ℕ → Type 0
NoChain text = (chain : List Landmark) → SpellsChain text chain → ⊥
