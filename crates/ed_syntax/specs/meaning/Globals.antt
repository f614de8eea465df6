-- The lines that a global command takes, one after another, and what it is for undo (XCU ed, "Global Command", "Global Non-Matched
-- Command", "Undo Command").
use Rattle.std.specs.Prelude.{ℕ, ◌+◌, Bool, true, false, not, List, map, count_by, Option, Some, None, option_map, Result, Ok}
use Rattle.ed_base.specs.Buffer.{Line, with_flag, flagged_at, flagged_place}
use Rattle.ed_base.specs.Parts.{between, replaced}
use Rattle.ed_base.specs.declared.fault.Fault.{Fault}
use Rattle.ed_syntax.specs.declared.command.Sense.{Sense}
use Rattle.ed_syntax.specs.declared.command.Sense.TheVariants as sense
use Rattle.ed_syntax.specs.meaning.States.{State, Kept, Past, Same, Was, Open}
use Rattle.ed_syntax.specs.meaning.Values.{◌>>◌, matches, used_pattern}
use Rattle.ed_syntax.specs.meaning.Ranges.{Span}

-- whether a line is taken, of which it is known whether it matches
abbrev pub wanted : Sense → Bool → Bool
wanted sense.Matching found = found
wanted sense.Others found = not found

-- a line with the flag where it is taken
abbrev pub flagged_line : Sense → (pattern : List ℕ) → Line → Line
flagged_line which text line = with_flag (wanted which (matches text line.bytes)) line

-- `g` and `v`, before their list: the lines that are taken have the flag, and the pattern is remembered
abbrev pub flagged : Sense → Option (List ℕ) → Span → State → Result State Fault
flagged which pattern x s =
    used_pattern pattern s >> λ text.
    let lines = replaced x.first x.last (map (flagged_line which text) (between x.first x.last s.lines)) s.lines in
    Ok (record s { lines = lines; pattern = Some text })

-- how many lines have the flag
abbrev pub flags : State → ℕ
flags s = count_by (λ line. line.flag) s.lines

-- the list is run from here on; undo will see the global command as one change
abbrev pub opened : (before : Kept) → State → State
opened before s = record s { global = Some (record { before = before; altered = false }) }

-- the line at this place, counted from 0, is current and has no flag
abbrev pub taken_at : State → (place : ℕ) → State
taken_at s place = record s { lines = flagged_at place false s.lines; current = place + 1 }

-- the flagged line that comes first in the buffer as it is now is taken, if there is one
abbrev pub next_taken : State → Option State
next_taken s = option_map (taken_at s) (flagged_place s.lines)

-- what undo would bring back of a global command: the buffer before it, if its list changed anything
abbrev pub past_of_global : Open → Past
past_of_global g = elim g.altered [ true ↦ Was g.before | false ↦ Same ]

-- the global command is over
abbrev pub closed : State → State
closed s = elim s.global [ None ↦ s | Some g ↦ record s { past = past_of_global g; global = None } ]
