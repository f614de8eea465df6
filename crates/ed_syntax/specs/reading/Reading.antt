-- How the reader takes a script apart, one step after another (XCU ed, "Commands in ed", "Global Command").
use Rattle.std.specs.Prelude.{ℕ, zero, suc, ◌+◌, ◌-◌, false, List, [], ◌∷◌, length, Option, Some, None}
use Rattle.ed_base.specs.Lines.{lines_of}
use Rattle.ed_syntax.specs.declared.command.Sense.{Sense}
use Rattle.ed_syntax.specs.Commands.{Addresses, Step, Script, alone}
use Rattle.ed_syntax.specs.reading.Tokens.{◌>>=◌, addresses}
use Rattle.ed_syntax.specs.reading.ReadCommands.{Taken, command_after_addresses}
use Rattle.ed_syntax.specs.reading.ReadGlobals.{sense_at, global_after_addresses}

-- a step after its addresses, by the letter of a global command if there is one
abbrev pub step_by : Option (Sense × List ℕ) → Addresses → List ℕ → List (List ℕ) → Taken Step
step_by (Some g) given bs later = global_after_addresses given g.0 g.1 later
step_by None given bs later = command_after_addresses false given bs later >>= λ r. Some (alone r.0, r.1)

-- a step after its addresses
abbrev pub step_after_addresses : Addresses → List ℕ → List (List ℕ) → Taken Step
step_after_addresses given bs later = step_by (sense_at bs) given bs later

-- the step that begins on this line, and the lines after it
abbrev pub step_at : List ℕ → List (List ℕ) → Taken Step
step_at line later = addresses line >>= λ r. step_after_addresses r.0 r.1 later

-- a step before a script
abbrev pub followed : Step → Script → Script
followed x script = record { steps = x ∷ script.steps; fault = script.fault }

-- The script of these lines, the first of which has this number; at most so many steps, which no script reaches.
abbrev pub script : (most number : ℕ) → List (List ℕ) → Script
script most number [] = record { steps = []; fault = None }
script zero number (line ∷ later) = record { steps = []; fault = Some number }
script (suc most) number (line ∷ later) =
    elim (step_at line later) [
      | None ↦ record { steps = []; fault = Some number }
      | Some r ↦ followed r.0 (script most (number + (suc (length later) - length r.1)) r.1)
    ]

-- the script that bytes spell
abbrev pub script_of : List ℕ → Script
script_of bytes = script (length (lines_of bytes)) 1 (lines_of bytes)
