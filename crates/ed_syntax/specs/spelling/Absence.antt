-- What doesn't stand at the front of a text.
use Rattle.std.specs.Prelude.{ℕ, List, Option}
use Rattle.ed_syntax.specs.spelling.Quoting.{SpellsPattern}
use Rattle.ed_syntax.specs.Commands.{Address}
use Rattle.ed_syntax.specs.spelling.Addressing.{SpellsNumber, SpellsAddress}

-- no number stands in front
abbrev pub NoNumber : List ℕ → Type 0
NoNumber text = (rest : List ℕ) (n : ℕ) → SpellsNumber text rest n → ⊥

-- no pattern stands after this delimiter
abbrev pub NoPattern : (delimiter : ℕ) → List ℕ → Type 0
NoPattern delimiter text = (rest : List ℕ) (pattern : Option (List ℕ)) → SpellsPattern delimiter text rest pattern → ⊥

-- no address stands in front, nor does a text without one: what begins an address there can't be read
abbrev pub NoAddress : List ℕ → Type 0
NoAddress text = (rest : List ℕ) (a : Option Address) → SpellsAddress text rest a → ⊥
