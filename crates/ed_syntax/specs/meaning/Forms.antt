-- How lines are written (XCU ed, "Print Command", "Number Command", "List Command").
use Rattle.std.specs.Prelude.{ℕ, ◌+◌, ◌/◌, ◌%◌, true, false, ◌&&◌, List, [], ◌∷◌, ◌++◌, length, decimal, nat_eq, nat_le}
use Rattle.ed_base.specs.Buffer.{Line}
use Rattle.ed_base.specs.Lines.{newline}
use Rattle.ed_base.specs.Parts.{between}
use Rattle.ed_syntax.specs.spelling.Characters.{dollar_sign, backslash}
use Rattle.ed_syntax.specs.Commands.{Form, Plain, Numbered, Unambiguous}

-- three octal digits
abbrev pub octal : ℕ → List ℕ
octal b = (48 + b / 64) ∷ (48 + b / 8 % 8) ∷ (48 + b % 8) ∷ []

-- the bytes with a name of their own, each beside it: alert, backspace, tab, vertical tab, form feed, return, `$` and `\`
abbrev pub names : List (ℕ × ℕ)
names = (7, 97) ∷ (8, 98) ∷ (9, 116) ∷ (11, 118) ∷ (12, 102) ∷ (13, 114) ∷ (36, 36) ∷ (92, 92) ∷ []

-- a byte as three octal digits, or as itself where it is printed
abbrev pub plainly : ℕ → List ℕ
plainly b = elim (nat_le 32 b && nat_le b 126) [ true ↦ b ∷ [] | false ↦ backslash ∷ octal b ]

-- a byte after a backslash by its name, if it has one
abbrev pub named : ℕ → List (ℕ × ℕ) → List ℕ
named b [] = plainly b
named b (entry ∷ entries) = elim (nat_eq b entry.0) [ true ↦ backslash ∷ entry.1 ∷ [] | false ↦ named b entries ]

-- a byte so that it can be told (XBD table 5-1; `$` after a backslash)
abbrev pub escaped : ℕ → List ℕ
escaped b = named b names

-- the most bytes in a row, without the backslash that goes on in the next one (our choice)
abbrev pub row_length : ℕ
row_length = 71

-- The bytes after those that fill this many places of a row. What would make the row too long begins a new one; at the end
-- stands a `$`.
abbrev pub folded : (column : ℕ) → List ℕ → List ℕ
folded column [] = dollar_sign ∷ newline ∷ []
folded column (b ∷ bytes) =
    elim (nat_le (column + length (escaped b)) row_length) [
      | true ↦ escaped b ++ folded (column + length (escaped b)) bytes
      | false ↦ backslash ∷ newline ∷ (escaped b ++ folded (length (escaped b)) bytes)
    ]

-- the line of this number in a form
abbrev pub written : Form → (number : ℕ) → Line → List ℕ
written Plain number line = line.bytes ++ newline ∷ []
written Numbered number line = decimal number ++ 9 ∷ (line.bytes ++ newline ∷ [])
written Unambiguous number line = folded 0 line.bytes

-- lines one after another, the first of which has this number
abbrev pub all_written : Form → (number : ℕ) → List Line → List ℕ
all_written form number [] = []
all_written form number (line ∷ lines) = written form number line ++ all_written form (number + 1) lines

-- the lines from a to b
abbrev pub lines_written : Form → ℕ → ℕ → List Line → List ℕ
lines_written form a b lines = all_written form a (between a b lines)
