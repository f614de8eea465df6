-- How the reader takes a global command apart: its letter, its pattern and its list (XCU ed, "Global Command").
use Rattle.std.specs.Prelude.{ℕ, zero, suc, ◌-◌, Bool, true, false, List, [], ◌∷◌, ◌++◌, length, take, drop, Option, Some, None, nat_eq}
use Rattle.ed_base.specs.Lines.{newline, lines_of}
use Rattle.ed_syntax.specs.declared.command.Sense.{Sense}
use Rattle.ed_syntax.specs.declared.command.Sense.TheVariants as sense
use Rattle.ed_syntax.specs.Commands.{Addresses, Command, Step}
use Rattle.ed_syntax.specs.spelling.Characters.{is_delimiter, goes_on, after_blanks}
use Rattle.ed_syntax.specs.spelling.Letters.{letter_g, letter_v}
use Rattle.ed_syntax.specs.spelling.Spellings.{print, global_of}
use Rattle.ed_syntax.specs.reading.Tokens.{Parsed, ◌>>=◌, pattern_at}
use Rattle.ed_syntax.specs.reading.ReadCommands.{Taken, command_at}

-- the line without its last byte
abbrev pub without_last : List ℕ → List ℕ
without_last line = take (length line - 1) line

-- the list that begins with what is left of this line, as whole lines, and the lines after it
abbrev pub joined : List ℕ → List (List ℕ) → List ℕ × List (List ℕ)
joined own [] = elim (goes_on own) [ true ↦ (without_last own ++ newline ∷ [], []) | false ↦ (own ++ newline ∷ [], []) ]
joined own (line ∷ later) =
    elim (goes_on own) [
      | true ↦ let r = joined line later in (without_last own ++ newline ∷ r.0, r.1)
      | false ↦ (own ++ newline ∷ [], line ∷ later)
    ]

-- the commands of a list's lines; at most so many, which no list reaches
abbrev pub commands : (most : ℕ) → List (List ℕ) → Option (List Command)
commands most [] = Some []
commands zero (line ∷ later) = None
commands (suc most) (line ∷ later) = command_at true line later >>= λ r. commands most r.1 >>= λ cs. Some (r.0 ∷ cs)

-- the commands of a list
abbrev pub all_commands : List ℕ → Option (List Command)
all_commands list = commands (length (lines_of list)) (lines_of list)

-- an empty line and no more
abbrev pub is_newline : List ℕ → Bool
is_newline [] = false
is_newline (b ∷ []) = nat_eq b newline
is_newline (b ∷ c ∷ bs) = false

-- the commands of a list; one line of nothing but blanks is `p`
abbrev pub list_of : List ℕ → Option (List Command)
list_of list = elim (is_newline (after_blanks list)) [ true ↦ Some (print ∷ []) | false ↦ all_commands list ]

-- a global command with the list that was joined
abbrev pub with_list : Addresses → Sense → Option (List ℕ) → List ℕ × List (List ℕ) → Taken Step
with_list given which pattern r = list_of r.0 >>= λ cs. Some (record { command = global_of given which pattern; list = cs }, r.1)

-- the pattern of a global command, and what stands after it
abbrev pub global_by : Addresses → Sense → (delimiter : ℕ) → List ℕ → List (List ℕ) → Taken Step
global_by given which delimiter bs later = pattern_at delimiter bs >>= λ q. with_list given which q.0 (joined (drop 1 q.1) later)

-- a global command after its letter
abbrev pub global_after_addresses : Addresses → Sense → List ℕ → List (List ℕ) → Taken Step
global_after_addresses given which [] later = None
global_after_addresses given which (b ∷ bs) later = elim (is_delimiter b) [ true ↦ global_by given which b bs later | false ↦ None ]

-- the letter of a global command
abbrev pub sense_at : List ℕ → Parsed Sense
sense_at [] = None
sense_at (b ∷ bs) =
    elim (nat_eq b letter_g) [
      | true ↦ Some (sense.Matching, bs)
      | false ↦ elim (nat_eq b letter_v) [ true ↦ Some (sense.Others, bs) | false ↦ None ]
    ]
