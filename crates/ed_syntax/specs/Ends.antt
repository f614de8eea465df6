-- Where the parts of a command's line end (our choice: places are counted in bytes from 0).
use Rattle.std.specs.Prelude.{ℕ, ◌≤◌, List, length, drop}
use Rattle.ed_syntax.specs.Commands.{Addresses}
use Rattle.ed_syntax.specs.spelling.Quoting.{SpellsQuoted}
use Rattle.ed_syntax.specs.spelling.Addressing.{SpellsAddresses}

-- the bytes of a line before a place spell addresses, up to those after it
abbrev pub AddressesEnd : (line : List ℕ) → (place : ℕ) → Type 0
AddressesEnd line place = (place ≤ length line) × ((given : Addresses) × SpellsAddresses line (drop place line) given)

-- no addresses stand in front
abbrev pub NoAddresses : (line : List ℕ) → Type 0
NoAddresses line = (rest : List ℕ) (given : Addresses) → SpellsAddresses line rest given → ⊥

-- the bytes before a place spell a text between delimiters, up to those after it
abbrev pub PatternEnds : (delimiter : ℕ) → (bytes : List ℕ) → (place : ℕ) → Type 0
PatternEnds delimiter bytes place = (place ≤ length bytes) × ((text : List ℕ) × SpellsQuoted delimiter bytes (drop place bytes) text)

-- no such text stands there
abbrev pub NoQuoted : (delimiter : ℕ) → (bytes : List ℕ) → Type 0
NoQuoted delimiter bytes = (rest text : List ℕ) → SpellsQuoted delimiter bytes rest text → ⊥
