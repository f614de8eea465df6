-- Which bytes spell a pattern between delimiters (XCU ed, "Regular Expressions in ed", "Addresses in ed").
-- Each names a text, what stands after the part at its head, and what that part means. A text ends with its line.
use Rattle.std.specs.Prelude.{ℕ, ◌≢◌, Bool, true, false, ◌||◌, List, [], ◌∷◌, ◌++◌, Option, Some, None, nat_eq}
use Rattle.bre_parse.specs.Tree.{Tree}
use Rattle.bre_parse.specs.Spelled as bre
use Rattle.bre_parse.specs.SpelledBrackets.{SpellsBracket}
use Rattle.ed_syntax.specs.spelling.Characters.{backslash, left_square_bracket}

-- a byte that may have a meaning in patterns by itself: one of `$ * . [ ] ^`
abbrev pub is_special : ℕ → Bool
is_special b = nat_eq b 36 || nat_eq b 42 || nat_eq b 46 || nat_eq b 91 || nat_eq b 93 || nat_eq b 94

-- the delimiter as itself in a pattern: where it is special there, its backslash stays
abbrev pub as_itself : (delimiter : ℕ) → List ℕ
as_itself delimiter = elim (is_special delimiter) [ true ↦ backslash ∷ delimiter ∷ [] | false ↦ delimiter ∷ [] ]

-- The bytes of a pattern up to the next delimiter that is outside a bracket expression and not after a backslash, with which the
-- rest begins, or up to the line's end. A backslash and the delimiter are the delimiter as itself.
pub data SpellsQuoted (delimiter : ℕ) : (text rest : List ℕ) → (bytes : List ℕ) → Type 0 where
  closed : (rest : List ℕ) → SpellsQuoted delimiter (delimiter ∷ rest) (delimiter ∷ rest) []
  left_open : SpellsQuoted delimiter [] [] []
  ordinary : (byte : ℕ) (text rest bytes : List ℕ) → byte ≢ delimiter → byte ≢ backslash → byte ≢ left_square_bracket →
      SpellsQuoted delimiter text rest bytes → SpellsQuoted delimiter (byte ∷ text) rest (byte ∷ bytes)
  delimiter_itself : (text rest bytes : List ℕ) → SpellsQuoted delimiter text rest bytes →
      SpellsQuoted delimiter (backslash ∷ delimiter ∷ text) rest (as_itself delimiter ++ bytes)
  escaped : (byte : ℕ) (text rest bytes : List ℕ) → byte ≢ delimiter → SpellsQuoted delimiter text rest bytes →
      SpellsQuoted delimiter (backslash ∷ byte ∷ text) rest (backslash ∷ byte ∷ bytes)
  bracket : (inside text rest bytes : List ℕ) (set : Tree) → left_square_bracket ≢ delimiter → SpellsBracket (inside ++ text) text set →
      SpellsQuoted delimiter text rest bytes →
      SpellsQuoted delimiter (left_square_bracket ∷ (inside ++ text)) rest (left_square_bracket ∷ (inside ++ bytes))

-- A pattern after its delimiter: a basic regular expression, or nothing, which is the remembered pattern.
pub data SpellsPattern (delimiter : ℕ) : (text rest : List ℕ) → Option (List ℕ) → Type 0 where
  remembered : (text rest : List ℕ) → SpellsQuoted delimiter text rest [] → SpellsPattern delimiter text rest None
  given : (text rest bytes : List ℕ) (tree : Tree) → bytes ≢ [] → SpellsQuoted delimiter text rest bytes → bre.Spells bytes tree →
      SpellsPattern delimiter text rest (Some bytes)

-- The closing delimiter, or the line's end in its place.
pub data SpellsClosing (delimiter : ℕ) : (text rest : List ℕ) → Type 0 where
  closed : (rest : List ℕ) → SpellsClosing delimiter (delimiter ∷ rest) rest
  left_open : SpellsClosing delimiter [] []
