-- What each call of a session does to what is left of its run.
use Rattle.std.specs.Prelude.{ℕ, ◌≡◌, ◌<◌, ◌⊎◌, List, [], ◌∷◌, ◌++◌, length, true, false, Option, Some, None, Result, Err}
use Rattle.ed_base.specs.declared.fault.Fault.{Fault}
use Rattle.ed_base.specs.declared.fault.Fault.TheVariants.{Memory, Output}
use Rattle.ed_syntax.specs.declared.options.Ending.{Ending}
use Rattle.ed_syntax.specs.declared.request.Answer.{Answer}
use Rattle.ed_syntax.specs.declared.request.Request.{Request}
use Rattle.ed_syntax.specs.declared.request.Request.TheVariants as request
use Rattle.ed_syntax.specs.meaning.Progress.{Stops, Waits, Event, Wrote, Heard, after, RunsOut}
use Rattle.ed_session.specs.declared.session.Ask.{Ask}
use Rattle.ed_session.specs.declared.session.Ask.TheVariants as ask
use Rattle.ed_session.specs.declared.phase.Phase.TheVariants as phases
use Rattle.ed_session.specs.Sessions.{SessionValue, rest, is_over, is_waiting}

-- all that some steps of a run wrote
abbrev pub written : List Event → List ℕ
written [] = []
written (Wrote help output ∷ events) = output ++ written events
written (Heard help r ∷ events) = written events

-- the requests that were answered in them
abbrev pub heard : List Event → List Request
heard [] = []
heard (Wrote help output ∷ events) = heard events
heard (Heard help r ∷ events) = r ∷ heard events

-- The run goes on: given these answers it has some steps, in which these requests are answered, and what is left after them is
-- what is left of the new session. What was pending and what they wrote was handed out, up to what is pending now.
pub record GoesOn (old : SessionValue) (given : List Answer) (output : List ℕ) (asked : List Request) (new : SessionValue) : Type 0 where
  pub events : List Event
  pub same : (answers : List Answer) → rest old (given ++ answers) ≡ after events (rest new answers)
  pub handed_out : old.pending ++ written events ≡ output ++ new.pending
  pub answered : heard events ≡ asked
  pub stays : (result : Result Ending Fault) → old.phase ≡ phases.Over result → new.phase ≡ phases.Over result

-- Memory ran out at one of these steps: the run is over, and what was handed out or is pending is that of the run cut there.
pub record BreaksOff (old : SessionValue) (given : List Answer) (output : List ℕ) (asked : List Request) (new : SessionValue) : Type 0 where
  pub running : is_over old.phase ≡ false
  pub over : new.phase ≡ phases.Over (Err Memory)
  pub written : List ℕ
  pub cut : (answers : List Answer) → RunsOut (rest old (given ++ answers)) written asked
  pub handed_out : old.pending ++ written ≡ output ++ new.pending

-- what a call leaves that gave these answers and was handed this output: the run went on, or memory ran out
abbrev pub Leads : SessionValue → List Answer → List ℕ → List Request → SessionValue → Type 0
Leads old given output asked new = GoesOn old given output asked new ⊎ BreaksOff old given output asked new

-- an answer to a request was taken
abbrev pub Answers : SessionValue → Request → Answer → SessionValue → Type 0
Answers old request answer new = Leads old (answer ∷ []) [] (request ∷ []) new

-- the start: with a path the answer to its read is taken, without one nothing
abbrev pub Starts : Option (List ℕ) → SessionValue → Answer → SessionValue → Type 0
Starts (Some path) old answer new = Answers old (request.Read path) answer new
Starts None old answer new = GoesOn old [] [] [] new

-- the run has come to a request and waits for its answer; all output before it was handed out
pub record Awaits (old : SessionValue) (request : Request) (new : SessionValue) : Type 0 where
  pub same : GoesOn old [] [] [] new
  pub waiting : new.phase ≡ phases.Waiting
  pub handed_out : new.pending ≡ []
  pub asks : rest new [] ≡ Stops new.present.help (Waits request)

-- the end of the run was told, and all output before it handed out
pub record TellsEnd (old : SessionValue) (result : Result Ending Fault) (new : SessionValue) : Type 0 where
  pub same : GoesOn old [] [] [] new
  pub over : new.phase ≡ phases.Over result
  pub handed_out : new.pending ≡ []
  pub told : new.told ≡ true

-- some output was handed out
pub record HandsOut (old : SessionValue) (bytes : List ℕ) (new : SessionValue) : Type 0 where
  pub some : 0 < length bytes
  pub leads : Leads old [] bytes [] new
  pub idle : is_waiting new.phase ≡ false
  pub untold : new.told ≡ false

-- what a step gives
abbrev pub Gives : SessionValue → Ask → SessionValue → Type 0
Gives old (ask.Output bytes) new = HandsOut old bytes new
Gives old (ask.Read path) new = Awaits old (request.Read path) new
Gives old (ask.Write path bytes) new = Awaits old (request.Write path bytes) new
Gives old (ask.Ended result) new = TellsEnd old result new

-- it tells the end
abbrev pub IsEnded : Ask → Type 0
IsEnded (ask.Ended result) = Unit {0}
IsEnded asks = ⊥

-- the output was refused: the run is over by that, and nothing is left to hand out
pub record LosesOutput (new : SessionValue) : Type 0 where
  pub over : new.phase ≡ phases.Over (Err Output)
  pub pending : new.pending ≡ []
