-- What readers of parts hand on, with places that are counted from the end of the text.
use Rattle.std.specs.Prelude.{◌≡◌, ℕ, List, ◌++◌, length, Err}
use Rattle.bre_parse.specs.Grammar.{pattern}
use Rattle.landmarks.specs.declared.chain_fault.ChainWrong.{ChainWrong}
use Rattle.landmarks.specs.declared.chain_fault.ChainWrong.TheVariants as wrong
use Rattle.landmarks.specs.declared.chain_fault.Stop.{Stop}
use Rattle.landmarks.specs.declared.chain_fault.Stop.TheVariants as stop
use Rattle.landmarks.specs.ChainFaults.{IsWrongHere}
use Rattle.landmarks.specs.declared.landmark.Landmark.{Landmark}
use Rattle.landmarks.specs.declared.which.Which.{Which}
use Rattle.landmarks.specs.Spelled.{SpellsNone, SpellsWhich, SpellsDistance, SpellsTests, SpellsParts, SpellsLandmark, SpellsLandmarks}

-- The bytes are the end of a text.
pub record IsEnd (text end : List ℕ) : Type 0 where
  pub front : List ℕ
  pub cut : text ≡ front ++ end

-- Something is wrong from a place on, with so many bytes left there.
pub record IsWrongAt (text : List ℕ) (what : ChainWrong) (left : ℕ) : Type 0 where
  pub here : List ℕ
  pub end : IsEnd text here
  pub left_is : length here ≡ left
  pub wrong : IsWrongHere here what

-- what is wrong is so; for want of memory nothing is said
abbrev pub StopsIn : (text : List ℕ) → Stop → Type 0
StopsIn text (stop.Wrong what left) = IsWrongAt text what left
StopsIn text stop.Memory = Unit {0}

-- what may be said of a pattern in which something isn't whole: that it isn't closed, or why the bytes are no pattern
abbrev pub IsWrongIn : (more : List ℕ) → ChainWrong → Type 0
IsWrongIn more wrong.Unclosed = Unit {0}
IsWrongIn more (wrong.Pattern reason) = pattern more ≡ Err reason
IsWrongIn more _ = ⊥

-- a fact of a reader that stopped, but for want of memory
abbrev pub Unless : (P : Type 0) → Stop → Type 0
Unless P (stop.Wrong what left) = P
Unless P stop.Memory = Unit {0}

-- no such part stands in front
abbrev pub NoNone : (set : List (List ℕ)) → (text : List ℕ) → Type 0
NoNone set text = (rest : List ℕ) (none : List (List ℕ)) → SpellsNone set text rest none → ⊥

abbrev pub NoWhich : List ℕ → Type 0
NoWhich text = (rest : List ℕ) (which : Which) → SpellsWhich text rest which → ⊥

abbrev pub NoDistance : (word : List ℕ) (unsaid : ℕ) → List ℕ → Type 0
NoDistance word unsaid text = (rest : List ℕ) (n : ℕ) → SpellsDistance word unsaid text rest n → ⊥

abbrev pub NoTests : (also lacks : List (List ℕ)) → (text : List ℕ) → Type 0
NoTests also lacks text = (rest : List ℕ) (all_also all_lacks : List (List ℕ)) → SpellsTests also lacks text rest all_also all_lacks → ⊥

abbrev pub NoParts : List ℕ → Type 0
NoParts text = (rest : List ℕ) (landmark : Landmark) → SpellsParts text rest landmark → ⊥

abbrev pub NoLandmark : List ℕ → Type 0
NoLandmark text = (rest : List ℕ) (landmark : Landmark) → SpellsLandmark text rest landmark → ⊥

abbrev pub NoLandmarks : List ℕ → Type 0
NoLandmarks text = (chain : List Landmark) → SpellsLandmarks text chain → ⊥
