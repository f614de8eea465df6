-- The rules: the state after a command, or the fault of the first need that fails. They go through the phases of a command.
use Rattle.std.specs.Prelude.{ℕ, pos, negsuc, Bool, ◌&&◌, nat_lt, List, length, Option, Some, None, Result, Ok, Err}
use Rattle.ed_base.specs.declared.fault.Fault.{Fault}
use Rattle.ed_base.specs.declared.fault.Fault.TheVariants as fault
use Rattle.zones.specs.Name as name
use Rattle.zones.specs.Name.{current_line, last_line, first_address, second_address}
use Rattle.zones.specs.Known.{known}
use Rattle.ed_syntax.specs.Commands as ed
use Rattle.ed_syntax.specs.Commands.{Addresses, Form, Verb, Command}
use Rattle.ed_syntax.specs.spelling.Readable.{enters_lines}
use Rattle.ed_syntax.specs.meaning.Verbs.{takes, given_or}
use Rattle.ed_syntax.specs.meaning.Values.{◌>>◌}
use Rattle.ed_syntax.specs.declared.verbs.Taking.{Taking}
use Rattle.ed_syntax.specs.declared.verbs.Taking.TheVariants as many
use Rattle.ed_rules.specs.declared.state.State.{State}
use Rattle.ed_rules.specs.Pieces.{needing, with_zone, ended, lifted}
use Rattle.ed_rules.specs.Addresses.{addressed, standing, last_given, targeted, ranged}
use Rattle.ed_rules.specs.Lines.{appended, put_before, lifted_range, changed_to, deleted, joined_given, marked, current_at, copied_lines}
use Rattle.ed_rules.specs.Move.{moved_lines}
use Rattle.ed_rules.specs.Substituting.{pattern_used, substituted}
use Rattle.ed_rules.specs.Files.{file_read, whole_or_ranged, file_written, saved, edited, edited_anyway, file_named}
use Rattle.ed_rules.specs.Undoing.{undone}
use Rattle.ed_rules.specs.Matching.{saying, matches_after}
use Rattle.ed_rules.specs.FactsAfter.{facts_after}

-- what a command needs of its lines, by how many it takes
abbrev pub taken : Taking → (given a : Addresses) → State → Result State Fault
taken many.NoAddress given a s = Ok s
taken many.Place given a s = Ok (last_given a s)
taken many.FirstPlace given a s = let t = last_given a s in Ok (with_zone (lifted first_address t.zone) t)
taken many.OneLine given a s = let t = last_given a s in needing (known t.zone name.zero first_address (negsuc 0)) fault.Address t
taken many.Lines given a s =
    needing (known s.zone first_address second_address (pos 0)) fault.Address (with_zone (lifted_range given s.zone) s) >> ranged
taken many.Range given a s = ranged s
taken many.Whole given a s = whole_or_ranged given s

-- What a command does that began in the state `start`, its lines taken. Of `g` and `v` it is what comes before their list.
abbrev pub effect : (listed : Bool) → (given : Addresses) → Verb → (start : State) → State → Result State Fault
effect listed given (ed.Append text) start s = Ok (appended listed start (length text) s)
effect listed given (ed.Insert text) start s = Ok (put_before listed start (length text) s)
effect listed given (ed.Change text) start s = Ok (changed_to listed start (length text) s)
effect listed given ed.Delete start s = Ok (deleted listed start s)
effect listed given ed.Join start s = Ok (joined_given given listed start s)
effect listed given (ed.Mark letter) start s =
    needing (nat_lt letter 26 && known s.zone first_address last_line (pos 0)) fault.Address (marked letter s)
effect listed given (ed.Write form) start s = Ok (current_at second_address s)
effect listed given ed.Null start s = Ok (current_at first_address s)
effect listed given ed.LineNumber start s = Ok s
effect listed given ed.Help start s = Ok s
effect listed given ed.HelpMode start s = Ok s
effect listed given ed.PromptMode start s = Ok s
effect listed given (ed.Move to) start s = moved_lines listed start s
effect listed given (ed.Copy to) start s = Ok (copied_lines listed start s)
effect listed given (ed.Substitute pattern replacement choice form) start s = substituted listed pattern replacement choice start s
effect listed given (ed.ReadFile path) start s = file_read listed path start s
effect listed given (ed.WriteFile path) start s = file_written given path s
effect listed given (ed.Edit path) start s = edited path s
effect listed given (ed.EditAnyway path) start s = edited_anyway path s
effect listed given (ed.FileName path) start s = file_named path s
effect listed given (ed.Global sense pattern) start s = pattern_used pattern s
effect listed given ed.Undo start s = undone s
effect listed given ed.Quit start s = saved s
effect listed given ed.QuitAnyway start s = Ok s

-- a suffix writes the current line, so there has to be one
abbrev pub suffixed : Option Form → State → Result State Fault
suffixed None s = Ok s
suffixed (Some form) s = needing (known s.zone name.zero current_line (negsuc 0)) fault.Address s

-- the phases of a command with these addresses
abbrev pub step_at : (watched : List (List ℕ)) → Addresses → Command → State → Result State Fault
step_at watched a c s =
    addressed a s >> λ t.
    targeted (takes c.verb).target t >> λ p.
    taken (takes c.verb).taking c.addresses a p >> λ u.
    effect c.listed c.addresses c.verb s u >> λ r.
    suffixed c.suffix (saying (matches_after watched c.listed c.addresses (takes c.verb).lines s u) (facts_after watched c.listed c.addresses c.verb u r)
    (with_zone (ended r.marks r.zone) r))

-- The state after a command, or the fault of the first need that fails. Which patterns are watched makes no difference to its needs.
abbrev pub step : (watched : List (List ℕ)) → Command → State → Result State Fault
step watched c s = needing (enters_lines c.verb) fault.Syntax s >> step_at watched (given_or c.addresses (standing (takes c.verb).default)) c

-- the need that fails
abbrev pub fault_of : Result State Fault → Option Fault
fault_of (Ok t) = None
fault_of (Err f) = Some f
