-- What a session keeps inside, and what is true of it in each phase.
use Rattle.std.specs.Prelude.{ℕ, ◌≡◌, ◌≢◌, ◌⊎◌, Bool, true, false, not, ◌||◌, List, [], ◌∷◌, ◌++◌, length, decimal, Option, Some, None, Ok, Err}
use Rattle.ed_base.specs.Lines.{newline}
use Rattle.ed_base.specs.declared.fault.Fault.{Fault}
use Rattle.ed_base.specs.declared.fault.Fault.TheVariants.{Memory}
use Rattle.ed_syntax.specs.declared.request.Answer.{Answer}
use Rattle.ed_syntax.specs.declared.request.Answer.TheVariants as answer
use Rattle.ed_syntax.specs.declared.request.Request.{Request}
use Rattle.ed_syntax.specs.declared.request.Request.TheVariants as request
use Rattle.ed_syntax.specs.meaning.Applied.{command}
use Rattle.ed_syntax.specs.Commands as ed
use Rattle.ed_syntax.specs.Commands.{Command, Step, Verb}
use Rattle.ed_syntax.specs.meaning.Effects.{Asks}
use Rattle.ed_syntax.specs.meaning.Files.{loaded}
use Rattle.ed_syntax.specs.meaning.Progress.{Present, report}
use Rattle.ed_syntax.specs.meaning.States.{State, opening}
use Rattle.ed_syntax.specs.meaning.Verbs.{ends_run, is_global}
use Rattle.ed_session.specs.declared.modes.Modes.{Modes}
use Rattle.ed_session.specs.declared.session.Ask.{Ask}
use Rattle.ed_session.specs.declared.session.Ask.TheVariants as ask
use Rattle.ed_session.specs.declared.phase.Phase.{Phase}
use Rattle.ed_session.specs.declared.phase.Phase.TheVariants as phases
use Rattle.ed_session.specs.Sessions.{SessionValue, RunningList, is_over, is_started, is_waiting}
use Rattle.ed_session.specs.Agendas.{next_command}
use Rattle.ed_session.specs.Calls.{GoesOn, Gives}

-- what a run holds with these modes
abbrev pub holding : (silent : Bool) → State → Modes → (prompt : List ℕ) → Present
holding silent s modes prompt = record { state = s; silent = silent; prompting = modes.prompting; prompt = prompt; help = modes.help }

-- how many bytes a request writes, if it writes
abbrev pub bytes_of_write : Request → Option ℕ
bytes_of_write (request.Read path) = None
bytes_of_write (request.Write path bytes) = Some (length bytes)

-- how many bytes were written or read, if some were, by the answer to a request that writes so many or reads
abbrev pub length_counted : (writes : Option ℕ) → Answer → Option ℕ
length_counted (Some n) given = Some n
length_counted None (answer.Bytes bytes) = Some (length bytes)
length_counted None given = None

-- the count of so many bytes, unless the run is silent
abbrev pub counted : (silent : Bool) → Option ℕ → List ℕ
counted false (Some n) = decimal n ++ newline ∷ []
counted silent n = []

-- a step of these is the command alone: it neither ends the run nor runs a list
abbrev pub is_alone : Verb → Bool
is_alone verb = not (ends_run verb || is_global verb)

-- help mode after a command: `H` turns it on or off
abbrev pub help_after : Verb → Bool → Bool
help_after ed.HelpMode help = not help
help_after verb help = help

-- prompting after a command: `P` turns it on or off
abbrev pub prompting_after : Verb → Bool → Bool
prompting_after ed.PromptMode prompting = not prompting
prompting_after verb prompting = prompting

-- A fault is reported: it or, where there was no memory for its report, that memory ran out.
pub record Reported (help : Bool) (fault reported : Fault) (written : List ℕ) : Type 0 where
  pub which : (fault ≢ Memory) × (reported ≡ fault) ⊎ (reported ≡ Memory)
  pub wrote : written ≡ report help reported

-- a run was ended by a fault or by want of memory for its report, and this is the report
pub record EndsBy (help : Bool) (fault : Fault) (at : Phase) (written : List ℕ) : Type 0 where
  pub reported : Fault
  pub over : at ≡ phases.Over (Err reported)
  pub as_reported : Reported help fault reported written

-- what a step gives of some output, if there is any
abbrev pub ask_of_output : List ℕ → Option Ask
ask_of_output [] = None
ask_of_output (byte ∷ bytes) = Some (ask.Output (byte ∷ bytes))

-- what a step gives of a request
abbrev pub ask_of_request : Request → Ask
ask_of_request (request.Read path) = ask.Read path
ask_of_request (request.Write path bytes) = ask.Write path bytes

-- both reports that memory ran out, which aren't handed out
pub record AreReady (brief full : List ℕ) : Type 0 where
  pub without_text : brief ≡ report false Memory
  pub with_text : full ≡ report true Memory

-- a command comes next, and its step is the command alone: in a list each is
pub record IsNext (running : Option RunningList) (steps : List Step) (c : Command) : Type 0 where
  pub comes : next_command running steps ≡ Some c
  pub alone : running ≡ None → is_alone c.verb ≡ true

-- a command that comes next asks for a file, with a request that writes so many bytes or reads
pub record AsksFor (writes : Option ℕ) (s : State) (running : Option RunningList) (steps : List Step) (c : Command) : Type 0 where
  pub next : IsNext running steps c
  pub request : Request
  pub asks : command s c None ≡ Ok (Asks request)
  pub writes_it : writes ≡ bytes_of_write request

-- what each phase keeps
abbrev pub KeepsPhase : Phase → (writes : Option ℕ) → State → Option RunningList → List Step → List ℕ → Type 0
KeepsPhase (phases.Fresh path) writes s running steps pending = (s ≡ opening) × (pending ≡ [])
KeepsPhase phases.Waiting writes s running steps pending = ((c : Command) × AsksFor writes s running steps c) × (pending ≡ [])
KeepsPhase other writes s running steps pending = Unit {0}

-- the next command comes before any prompt: in a list there is none
abbrev pub goes_unprompted : Phase → Option RunningList → Bool
goes_unprompted phases.Prompted running = true
goes_unprompted phases.Waiting running = true
goes_unprompted phases.Between (Some t) = true
goes_unprompted at running = false

-- what an editor holds after the answer to the read of the start file
abbrev pub state_loaded : (path : List ℕ) → Answer → Option State
state_loaded path (answer.Bytes bytes) = Some (loaded bytes path opening)
state_loaded path answer.Missing = Some (loaded [] path opening)
state_loaded path other = None

-- what every session keeps: till it is over its editor hasn't failed, and its reports aren't handed out
pub record IsSound (at : Phase) (writes : Option ℕ) (state : State) (failed : Option Fault) (running : Option RunningList) (steps : List Step) (pending brief full : List ℕ) (told : Bool) : Type 0 where
  pub works : is_over at ≡ false → failed ≡ None
  pub can_report : is_over at ≡ false → AreReady brief full
  pub keeps : KeepsPhase at writes state running steps pending
  pub ended : told ≡ true → (is_over at ≡ true) × (pending ≡ [])

-- the run has gone on without output
pub record Advances (old new : SessionValue) : Type 0 where
  pub same : GoesOn old [] [] [] new
  pub idle : is_waiting new.phase ≡ false
  pub started : is_started new.phase ≡ true
  pub handed_out : new.pending ≡ []
  pub untold : new.told ≡ false

-- the run has gone on so, or what a step gives
abbrev pub AdvancesOrGives : SessionValue → Option Ask → SessionValue → Type 0
AdvancesOrGives old None new = Advances old new
AdvancesOrGives old (Some asks) new = Gives old asks new
