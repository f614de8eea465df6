-- Landmarks of a start that texts spell, and whether a script leaves letters for them (our own).
use Rattle.std.specs.Prelude.{◌≡◌, ◌≤◌, ℕ, List, map, All}
use Rattle.ed_syntax.specs.reading.Reading.{script_of}
use Rattle.landmarks.specs.ChainValues.{ChainValue}
use Rattle.landmarks.specs.Spelled.{SpellsChain}
use Rattle.cert_check.specs.checker.Beginning.{count_of, landmarks_of, letters_left}
use Rattle.ed_calls.specs.declared.starts.Starts.{Starts}
use Rattle.ed_calls.specs.Starts.{chains_given}

-- the texts by which chains were stated
abbrev pub texts_of : List ChainValue → List (List ℕ)
texts_of chains = map (λ chain. chain.text) chains

abbrev pub IsSpelled : ChainValue → Type 0
IsSpelled chain = SpellsChain chain.text chain.landmarks

-- Chains that these texts spell.
pub record AreSpelled (texts : List (List ℕ)) (chains : List ChainValue) : Type 0 where
  pub stated : texts_of chains ≡ texts
  pub spelled : All IsSpelled chains

-- a script leaves a letter for each landmark that is given
abbrev pub LeavesLetters : (script : List ℕ) → Starts → Type 0
LeavesLetters script starts = count_of (landmarks_of (chains_given starts)) ≤ letters_left (script_of script)
