-- The lines that a search looks at, one after another, and what it learns of its pattern.
use Rattle.std.specs.Prelude.{ℕ, zero, suc, ◌+◌, ◌-◌, true, false, List, [], ◌∷◌, IfOk, nat_le}
use Rattle.bre_parse.specs.Grammar.{pattern}
use Rattle.bre_match.specs.Learning.{Learns}
use Rattle.bre_match.specs.declared.learned.Learned.{Learned}
use Rattle.ed_syntax.specs.meaning.States.{State}
use Rattle.ed_syntax.specs.meaning.Values.{lines_backward, lines_forward}
use Rattle.ed_commands.specs.declared.editor.searching.Direction.{Direction}
use Rattle.ed_commands.specs.declared.editor.searching.Direction.TheVariants as to

-- the lines in the order in which a search looks at them
abbrev pub lines_in : Direction → State → List ℕ
lines_in to.Forward s = lines_forward s
lines_in to.Backward s = lines_backward s

-- the next line, and after the last one the first; or the line before, and before the first one the last
abbrev pub line_after : Direction → (last line : ℕ) → ℕ
line_after to.Forward last line = elim (nat_le last line) [ true ↦ 1 | false ↦ line + 1 ]
line_after to.Backward last line = elim (nat_le line 1) [ true ↦ last | false ↦ line - 1 ]

-- so many lines, each told from the one in front of it, and the first from this one
abbrev pub around : (next : ℕ → ℕ) → (line count : ℕ) → List ℕ
around next line zero = []
around next line (suc count) = next line ∷ around next (next line) count

-- what was learned is true of the pattern of this text
abbrev pub IsLearnedOf : Learned → (text : List ℕ) → Type 0
IsLearnedOf learned text = IfOk (pattern text) (Learns learned)
