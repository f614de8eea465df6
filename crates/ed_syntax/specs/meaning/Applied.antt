-- A command's meaning: the state and the output after it, a file that it needs, or its fault (XCU ed, "Commands in ed").
use Rattle.std.specs.Prelude.{ℕ, zero, suc, Bool, true, false, List, [], ◌++◌, Option, Some, None, option_map, Result, Ok, Err}
use Rattle.ed_base.specs.declared.fault.Fault.{Fault}
use Rattle.ed_base.specs.declared.fault.Fault.TheVariants as fault
use Rattle.ed_syntax.specs.declared.request.Answer.{Answer}
use Rattle.ed_syntax.specs.Commands as ed
use Rattle.ed_syntax.specs.Commands.{Address, Form, Verb, Command}
use Rattle.ed_syntax.specs.meaning.Verbs.{takes, given_or}
use Rattle.ed_syntax.specs.meaning.States.{State, Kept, Past, Was, kept, last, noted}
use Rattle.ed_syntax.specs.meaning.Values.{◌>>◌, value, evaluated, values}
use Rattle.ed_syntax.specs.meaning.Ranges.{Span, spanned}
use Rattle.ed_syntax.specs.meaning.Forms.{lines_written}
use Rattle.ed_syntax.specs.meaning.Effects as effect
use Rattle.ed_syntax.specs.meaning.Effects.{Outcome, Effect, Makes, Asks, only}
use Rattle.ed_syntax.specs.meaning.SubstitutedLines.{substitute}
use Rattle.ed_syntax.specs.meaning.Files as file
use Rattle.ed_syntax.specs.meaning.Globals.{flagged}

-- an outcome, where there is no fault
abbrev pub making : Result Outcome Fault → Result Effect Fault
making r = r >> λ o. Ok (Makes o)

-- What a command does at the lines of a span, and at its target; an answer that isn't asked for isn't looked at. Of `g` and `v` it is
-- what comes before their list; lists, modes and the end belong to the run.
abbrev pub effect_of : Verb → (listed : Bool) → Span → (target : ℕ) → State → Option Answer → Result Effect Fault
effect_of (ed.Append text) listed x target s given = Ok (Makes (effect.append text x s))
effect_of (ed.Change text) listed x target s given = Ok (Makes (effect.change text x s))
effect_of ed.Delete listed x target s given = Ok (Makes (effect.delete x s))
effect_of (ed.Insert text) listed x target s given = Ok (Makes (effect.insert text x s))
effect_of ed.Join listed x target s given = Ok (Makes (effect.join x s))
effect_of (ed.Mark letter) listed x target s given = Ok (Makes (effect.mark letter x s))
effect_of (ed.Move to) listed x target s given = making (effect.move x target s)
effect_of (ed.Copy to) listed x target s given = Ok (Makes (effect.copy x target s))
effect_of (ed.Substitute pattern replacement which form) listed x target s given = making (substitute listed pattern replacement which form x s)
effect_of ed.LineNumber listed x target s given = Ok (Makes (effect.line_number x s))
effect_of ed.Null listed x target s given = Ok (Makes (effect.write ed.Plain x s))
effect_of (ed.Write form) listed x target s given = Ok (Makes (effect.write form x s))
effect_of (ed.ReadFile path) listed x target s given = file.read path given x s
effect_of (ed.WriteFile path) listed x target s given = file.write path given x s
effect_of (ed.Edit path) listed x target s given = file.edit path given s
effect_of (ed.EditAnyway path) listed x target s given = file.edit_anyway path given s
effect_of (ed.FileName path) listed x target s given = making (file.file_name path s)
effect_of (ed.Global sense pattern) listed x target s given = flagged sense pattern x s >> λ t. Ok (Makes (only t []))
effect_of ed.Undo listed x target s given = making (effect.undo s.past s)
effect_of ed.Help listed x target s given = Ok (Makes (only s []))
effect_of ed.HelpMode listed x target s given = Ok (Makes (only s []))
effect_of ed.PromptMode listed x target s given = Ok (Makes (only s []))
effect_of ed.Quit listed x target s given = making (file.quit s)
effect_of ed.QuitAnyway listed x target s given = Ok (Makes (only s []))

-- the lines that a command is applied to, the value of its target, and the state once its addresses were evaluated
pub record Placed : Type 0 where
  pub state : State
  pub span : Span
  pub target : ℕ

-- the value of a target, where there is one
abbrev pub targeted : Option Address → State → Result (State × ℕ) Fault
targeted None s = Ok (s, 0)
targeted (Some a) s = value a s >> λ n. Ok (evaluated a s, n)

-- a command's lines and target, or the first fault of its addresses
abbrev pub placed : Command → State → Result Placed Fault
placed c s =
    values (given_or c.addresses (takes c.verb).default) s >> λ v.
    targeted (takes c.verb).target v.0 >> λ t.
    spanned (takes c.verb).taking (last s) v.1 >> λ x. Ok (record { state = t.0; span = x; target = t.1 })

-- what a suffix writes: the new current line, which isn't 0
abbrev pub suffix_written : Option Form → State → Result (List ℕ) Fault
suffix_written None s = Ok []
suffix_written (Some form) s = elim s.current [ zero ↦ Err fault.Address | suc n ↦ Ok (lines_written form s.current s.current s.lines) ]

-- what undo would bring back after a change: the buffer before it; in a list that is left to the end of the global
abbrev pub past_after : (listed : Bool) → Kept → Past → Past
past_after true before past = past
past_after false before past = Was before

-- a state that was changed: undo becomes the buffer before the command, and a global command that is open knows of the change
abbrev pub changed_from : (listed : Bool) → Kept → State → State
changed_from listed before s = record s { changed = true; past = past_after listed before s.past; global = option_map noted s.global }

-- what a command leaves, which came from this buffer
abbrev pub settled : (listed : Bool) → Kept → Outcome → State
settled listed before o = elim o.alters [ true ↦ changed_from listed before o.state | false ↦ o.state ]

-- the file that a command asks for, or what it did and what its suffix writes
abbrev pub completed : Command → State → Effect → Result Effect Fault
completed c s (Asks r) = Ok (Asks r)
completed c s (Makes o) =
    suffix_written c.suffix o.state >> λ more.
    Ok (Makes (record { state = settled c.listed (kept s) o; output = o.output ++ more; alters = o.alters }))

-- a command, without or with a file's answer; its faults come in the order of these steps
abbrev pub command : State → Command → Option Answer → Result Effect Fault
command s c given = placed c s >> λ p. effect_of c.verb c.listed p.span p.target p.state given >> completed c s
