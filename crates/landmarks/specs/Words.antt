-- Which bytes spell the words of a chain of landmarks (our own).
-- Each names a text, what stands after the part at its head, and what that part means. Blanks may stand before each part.
use Rattle.std.specs.Prelude.{◌≡◌, ℕ, ◌≤◌, Bool, ◌||◌, List, ◌∷◌, ◌++◌, Some, nat_eq, IsTrue, IsFalse}
use Rattle.ed_syntax.specs.spelling.Characters.{slash, is_letter, begins, after_blanks}
use Rattle.ed_syntax.specs.spelling.Quoting.{SpellsPattern}
use Rattle.ed_syntax.specs.spelling.Addressing.{SpellsNumber}

-- `|`
abbrev pub vertical_line : ℕ
vertical_line = 124

-- a pattern's delimiter: `/` or `|`
abbrev pub is_key_delimiter : ℕ → Bool
is_key_delimiter b = nat_eq b slash || nat_eq b vertical_line

-- A pattern between two slashes or two vertical lines, both there: a basic regular expression that isn't empty.
pub record SpellsKey (text rest pattern : List ℕ) : Type 0 where
  pub delimiter : ℕ
  pub more : List ℕ
  pub opened : after_blanks text ≡ delimiter ∷ more
  pub delimits : IsTrue (is_key_delimiter delimiter)
  pub closed : SpellsPattern delimiter more (delimiter ∷ rest) (Some pattern)

-- A word of letters, after which no letter stands.
pub record SpellsWord (word text rest : List ℕ) : Type 0 where
  pub stands : after_blanks text ≡ word ++ rest
  pub over : IsFalse (begins is_letter rest)

-- A number from 1 to 999999999, of one to nine digits.
pub record SpellsCount (text rest : List ℕ) (n : ℕ) : Type 0 where
  pub number : SpellsNumber (after_blanks text) rest n
  pub some : 1 ≤ n

-- no such part stands in front
abbrev pub NoKey : List ℕ → Type 0
NoKey text = (rest pattern : List ℕ) → SpellsKey text rest pattern → ⊥

abbrev pub NoWord : (word text : List ℕ) → Type 0
NoWord word text = (rest : List ℕ) → SpellsWord word text rest → ⊥

abbrev pub NoCount : List ℕ → Type 0
NoCount text = (rest : List ℕ) (n : ℕ) → SpellsCount text rest n → ⊥
