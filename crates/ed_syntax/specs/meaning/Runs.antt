-- A run of a script, from its start or from any command on (XCU ed, "Options", "Global Command", "Consequences of Errors").
use Rattle.std.specs.Prelude.{ℕ, zero, suc, not, List, [], ◌∷◌, ◌++◌, true, false, codes, Option, Some, None, Result, Ok, Err, is_some}
use Rattle.ed_base.specs.declared.fault.Fault.{Fault}
use Rattle.ed_base.specs.declared.fault.Fault.TheVariants as fault
use Rattle.ed_syntax.specs.declared.request.Answer.{Answer}
use Rattle.ed_syntax.specs.declared.request.Answer.TheVariants as answer
use Rattle.ed_syntax.specs.declared.request.Request.TheVariants as request
use Rattle.ed_syntax.specs.declared.options.Options.{Options}
use Rattle.ed_syntax.specs.Commands as ed
use Rattle.ed_syntax.specs.Commands.{Verb, Command, Step, Script}
use Rattle.ed_syntax.specs.meaning.States.{State, Kept, kept, opening}
use Rattle.ed_syntax.specs.meaning.Effects.{Outcome, Effect, Makes, Asks}
use Rattle.ed_syntax.specs.meaning.Files.{loaded}
use Rattle.ed_syntax.specs.meaning.Globals.{flags, opened, next_taken, closed}
use Rattle.ed_syntax.specs.meaning.Applied.{command}
use Rattle.ed_syntax.specs.meaning.Progress.{Present, Waits, Progress, Stops, Writes, Hears, Rest, failing, ending, quitting, count}

-- the same run with another state
abbrev pub with_state : State → Present → Present
with_state s m = record m { state = s }

-- what a run goes on with, once it has another present
abbrev pub Further : Type 0
Further = Present → Rest

-- what a run holds after a command
abbrev pub reached : Outcome → Present → Present
reached o m = with_state o.state m

-- the effect of a command that has its answer, and the run after it; such a command asks no more
abbrev pub answered : Present → (counted : List ℕ) → Result Effect Fault → Further → Rest
answered m counted (Err f) go answers = failing m f
answered m counted (Ok (Makes o)) go answers = Writes m.help (o.output ++ counted) (go (reached o m) answers)
answered m counted (Ok (Asks r)) go answers = failing m fault.File

-- the effect of a command, its answer where it asks, and the run after it
abbrev pub asking : Present → Result Effect Fault → (Answer → Result Effect Fault) → Further → Rest
asking m (Err f) again go answers = failing m f
asking m (Ok (Makes o)) again go answers = Writes m.help o.output (go (reached o m) answers)
asking m (Ok (Asks r)) again go [] = Stops m.help (Waits r)
asking m (Ok (Asks r)) again go (a ∷ answers) = Hears m.help r (answered m (count m.silent r a) (again a) go answers)

-- a mode is turned by `H` and `P` when they are done; `h` writes nothing, since no fault comes before it in a run
abbrev pub turned : Verb → Present → Present
turned ed.HelpMode m = record m { help = not m.help }
turned ed.PromptMode m = record m { prompting = not m.prompting }
turned _ m = m

-- one command and the run after it
abbrev pub one : Command → Present → Further → Rest
one c m go = asking m (command m.state c None) (λ a. command m.state c (Some a)) (λ t. go (turned c.verb t))

-- the commands of a list that are left for the line that was taken
abbrev pub listed : List Command → Present → Further → Rest
listed [] m go = go m
listed (c ∷ cs) m go = one c m (λ t. listed cs t go)

-- the list is run for the line that was taken, or no line has the flag
abbrev pub turn : Option State → (again : State → Rest) → (over : Rest) → Rest
turn None again over = over
turn (Some s) again over = again s

-- the list for each line that still has the flag; at most for so many lines, and no more have it
abbrev pub turns : (lines : ℕ) → (list : List Command) → Present → Further → Rest
turns zero list m go = go (with_state (closed m.state) m)
turns (suc lines) list m go =
    turn (next_taken m.state) (λ s. listed list (with_state s m) (λ t. turns lines list t go)) (go (with_state (closed m.state) m))

-- in a global command: the commands that are left for this line, and then the list for each line that still has the flag
abbrev pub inside : (left : List Command) → (lines : ℕ) → (list : List Command) → Present → Further → Rest
inside left lines list m go = listed left m (λ t. turns lines list t go)

-- a global command whose lines have their flags
abbrev pub global : (before : Kept) → (list : List Command) → Present → Further → Rest
global before list m go = turns (flags m.state) list (with_state (opened before m.state) m) go

-- a step that ends the run, or goes on
abbrev pub step_by : Verb → Step → Present → Further → Rest
step_by ed.Quit x m go answers = quitting m
step_by ed.QuitAnyway x m go answers = ending m
step_by (ed.Global sense pattern) x m go answers = one x.command m (λ t. global (kept m.state) x.list t go) answers
step_by verb x m go answers = one x.command m go answers

-- what a step of the script does to a run
abbrev pub step : Step → Present → Further → Rest
step x m go answers = step_by x.command.verb x m go answers

-- where prompting is on, the prompt is written before each step and before the end is found
abbrev pub prompted : Present → Progress → Progress
prompted m p = elim m.prompting [ true ↦ Writes m.help m.prompt p | false ↦ p ]

-- the end of the script, or the command that can't be read
abbrev pub at_end : Option ℕ → Present → Progress
at_end None m = quitting m
at_end (Some line) m = failing m fault.Syntax

-- the steps that are left, and the end of the script
abbrev pub steps : List Step → Option ℕ → Further
steps [] bad m answers = prompted m (at_end bad m)
steps (x ∷ xs) bad m answers = prompted m (step x m (λ t more. steps xs bad t more) answers)

-- the steps that are left where the prompt before the first was written, and the end of the script
abbrev pub unprompted : List Step → Option ℕ → Further
unprompted [] bad m answers = at_end bad m
unprompted (x ∷ xs) bad m answers = step x m (λ t more. steps xs bad t more) answers

-- the start file's answer, and the run after it; a file that is missing gives an empty buffer with its name
abbrev pub started : List ℕ → Answer → Present → Further → Rest
started path (answer.Bytes bytes) m go answers =
    Writes m.help (count m.silent (request.Read path) (answer.Bytes bytes)) (go (with_state (loaded bytes path m.state) m) answers)
started path answer.Missing m go answers = go (with_state (loaded [] path m.state) m) answers
started path answer.Refused m go answers = failing m fault.File
started path answer.Done m go answers = failing m fault.File

-- the start, with a file or with an empty buffer
abbrev pub start : Option (List ℕ) → Present → Further → Rest
start None m go answers = go m answers
start (Some path) m go [] = Stops m.help (Waits (request.Read path))
start (Some path) m go (a ∷ answers) = Hears m.help (request.Read path) (started path a m go answers)

-- the prompt, where none is given
abbrev pub prompt_of : Option (List ℕ) → List ℕ
prompt_of None = codes "*"
prompt_of (Some prompt) = prompt

-- a run before its file is read
abbrev pub present : Options → Present
present o = record { state = opening; silent = o.silent; prompting = is_some o.prompt; prompt = prompt_of o.prompt; help = false }

-- the run of a script: its output, its answered requests, and the request that it waits for or its end
abbrev pub run : Script → Options → Rest
run script o = start o.path (present o) (steps script.steps script.fault)
