-- A session as a value, and what is left of its run (our shape of a run that stops for its files).
use Rattle.std.specs.Prelude.{ℕ, Bool, true, false, List, [], length, Option, Some, None}
use Rattle.ed_syntax.specs.declared.options.Options.{Options}
use Rattle.ed_syntax.specs.declared.request.Request.{Request}
use Rattle.ed_syntax.specs.Commands.{Command, Step, Script}
use Rattle.ed_syntax.specs.meaning.Progress.{Present, Rest, Stop, Waits, Stops, Ends, stop_of}
use Rattle.ed_syntax.specs.meaning.Runs.{Further, present, start, inside, steps, unprompted}
use Rattle.ed_session.specs.declared.phase.Phase.{Phase}
use Rattle.ed_session.specs.declared.phase.Phase.TheVariants as phases

-- What is left of a global command whose list is run: the commands of the list for the line that was taken, the whole list, and for
-- how many lines more it is run at most.
pub record RunningList : Type 0 where
  pub left : List Command
  pub list : List Command
  pub lines : ℕ

-- how many commands of the list of an open global command are left for the line that was taken, the one being done among them
abbrev pub listed_left : Option RunningList → ℕ
listed_left None = 0
listed_left (Some turns) = length turns.left

-- A session: where it is, what it holds, what is left of a global command that is open, the steps that are left after it, output that
-- wasn't handed out, and whether its end was told.
pub record SessionValue : Type 0 where
  pub phase : Phase
  pub present : Present
  pub running_list : Option RunningList
  pub steps : List Step
  pub fault : Option ℕ
  pub pending : List ℕ
  pub told : Bool

-- a session just made
abbrev pub made : Script → Options → SessionValue
made script o = record {
  phase = phases.Fresh o.path;
  present = present o;
  running_list = None;
  steps = script.steps;
  fault = script.fault;
  pending = [];
  told = false;
}

-- it was given its start file, or none
abbrev pub is_started : Phase → Bool
is_started (phases.Fresh path) = false
is_started other = true

-- it waits for the answer to a request
abbrev pub is_waiting : Phase → Bool
is_waiting phases.Waiting = true
is_waiting other = false

-- its run is over
abbrev pub is_over : Phase → Bool
is_over (phases.Over result) = true
is_over other = false

-- the path of the start file, till a session starts
abbrev pub path_of : Phase → Option (List ℕ)
path_of (phases.Fresh path) = path
path_of other = None

-- what is left of a global command, where one is open, and then of the script; else what is left outside of one
abbrev pub go_on : Option RunningList → (outside script : Further) → Further
go_on None outside script m = outside m
go_on (Some t) outside script m = inside t.left t.lines t.list m script

-- the same from before a prompt on; there are prompts only outside of a global command
abbrev pub go_on_prompted : Option RunningList → List Step → (fault : Option ℕ) → Further
go_on_prompted running left fault = go_on running (steps left fault) (steps left fault)

-- the same from after a prompt on
abbrev pub go_on_unprompted : Option RunningList → List Step → (fault : Option ℕ) → Further
go_on_unprompted running left fault = go_on running (unprompted left fault) (steps left fault)

-- what is left of the run from a phase on; waiting only remembers that a request was handed out
abbrev pub rest_at : Phase → SessionValue → Rest
rest_at (phases.Fresh path) v answers = start path v.present (go_on_prompted v.running_list v.steps v.fault) answers
rest_at phases.Between v answers = go_on_prompted v.running_list v.steps v.fault v.present answers
rest_at phases.Prompted v answers = go_on_unprompted v.running_list v.steps v.fault v.present answers
rest_at phases.Waiting v answers = go_on_unprompted v.running_list v.steps v.fault v.present answers
rest_at (phases.Over result) v answers = Stops v.present.help (Ends result)

-- what is left of the run after the output that is pending, for the answers to come
abbrev pub rest : SessionValue → Rest
rest v answers = rest_at v.phase v answers

-- the request of a run that waits
abbrev pub request_of : Stop → Option Request
request_of (Waits request) = Some request
request_of (Ends result) = None

-- the request whose answer is awaited
abbrev pub awaited : SessionValue → Option Request
awaited v = request_of (stop_of (rest v []))
