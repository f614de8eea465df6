-- What driving a session to its end has done: the files that were asked for, the output that was written, and the end.
use Rattle.std.specs.Prelude.{ℕ, ◌≡◌, ◌<◌, ◌++◌, ◌⊎◌, List, [], ◌∷◌, length, map, drop, All, Bool, true, false, Some, Result, Err}
use Rattle.ed_base.specs.declared.fault.Fault.{Fault}
use Rattle.ed_base.specs.declared.fault.Fault.TheVariants.{Memory, Output, File}
use Rattle.ed_syntax.specs.declared.request.Answer.{Answer}
use Rattle.ed_syntax.specs.declared.request.Answer.TheVariants as answer
use Rattle.ed_syntax.specs.declared.request.Request.{Request}
use Rattle.ed_syntax.specs.declared.request.Request.TheVariants as request
use Rattle.ed_syntax.specs.declared.options.Ending.{Ending}
use Rattle.ed_syntax.specs.meaning.Progress.{Progress, Ends, Event, after, output_of, asked_of, stop_of, RunsOut}
use Rattle.ed_session.specs.declared.phase.Phase.{Phase}
use Rattle.ed_session.specs.declared.phase.Phase.TheVariants as phases
use Rattle.ed_session.specs.Sessions.{SessionValue, rest, is_over}
use Rattle.ed_session.specs.Calls.{written}
use Rattle.ed_session.specs.Sinks.{SinkChange, Took, NeverFailed, Failed, GoesOnAfter}

-- the requests to an outside with their answers, the oldest first
abbrev pub Log : Type 0
Log = List (Request × Answer)

-- what a log has beyond an older one
abbrev pub added : Log → Log → Log
added old new = drop (length old) new

-- what was asked
abbrev pub requests : Log → List Request
requests log = map (λ entry. entry.0) log

-- what was answered
abbrev pub answers : Log → List Answer
answers log = map (λ entry. entry.1) log

-- an answer fits its request; one that doesn't counts as a refusal
abbrev pub fits : Request → Answer → Bool
fits (request.Read path) (answer.Bytes bytes) = true
fits (request.Read path) answer.Missing = true
fits (request.Write path bytes) answer.Done = true
fits asked given = false

-- each answer of a log fits its request
abbrev pub AllFit : Log → Type 0
AllFit log = All (λ entry. fits entry.0 entry.1 ≡ true) log

-- the run with these answers has asked just these requests and has ended, and its output was written
pub record Finished (from : SessionValue) (log : Log) (sink : SinkChange) (result : Result Ending Fault) : Type 0 where
  pub asked : asked_of (rest from (answers log)) ≡ requests log
  pub ended : stop_of (rest from (answers log)) ≡ Ends result
  pub wrote : Took sink (from.pending ++ output_of (rest from (answers log)))

-- memory ran out at one of its steps, and the output of the run cut there was written
pub record RanOut (from : SessionValue) (log : Log) (sink : SinkChange) : Type 0 where
  pub running : is_over from.phase ≡ false
  pub output : List ℕ
  pub cut : RunsOut (rest from (answers log)) output (requests log)
  pub wrote : Took sink (from.pending ++ output)

-- what a run writes in its first steps, where in all its steps it asks just these requests
pub record Begun (run : Progress) (asked : List Request) (output : List ℕ) : Type 0 where
  pub events : List Event
  pub left : Progress
  pub whole : run ≡ after events left
  pub answered : asked_of run ≡ asked
  pub wrote : written events ≡ output

-- the sink failed: it took a front of what the run or the run cut has written by then, and not all of it
pub record CutOff (from : SessionValue) (log : Log) (sink : SinkChange) : Type 0 where
  pub output : List ℕ
  pub run : Begun (rest from (answers log)) (requests log) output ⊎ RunsOut (rest from (answers log)) output (requests log)
  pub part : List ℕ
  pub front : GoesOnAfter (from.pending ++ output) part
  pub took : Took sink part

-- How a session was driven: to the end of its run, or till memory ran out, or till the sink failed, which it did just then.
abbrev pub Drove : SessionValue → Log → SinkChange → Result Ending Fault → Type 0
Drove from log sink result =
    NeverFailed sink × Finished from log sink result
    ⊎ ((result ≡ Err Memory) × NeverFailed sink × RanOut from log sink
    ⊎ (result ≡ Err Output) × Failed sink × CutOff from log sink)

-- How a session is left: over, with nothing pending. So, driven again, it asks and writes nothing and ends so again.
pub record Closed (now : SessionValue) (result : Result Ending Fault) : Type 0 where
  pub over : now.phase ≡ phases.Over result
  pub pending : now.pending ≡ []
  pub told : (now.told ≡ true) ⊎ (result ≡ Err Output)

-- the last of these was the read of a file that isn't there
pub data EndsMissing : Log → Type 0 where
  here : (path : List ℕ) → EndsMissing ((request.Read path, answer.Missing) ∷ [])
  later : (entry : Request × Answer) (log : Log) → EndsMissing log → EndsMissing (entry ∷ log)

-- an answer is a refusal
abbrev pub is_refusal : Answer → Bool
is_refusal answer.Refused = true
is_refusal other = false

-- the last of these was refused
abbrev pub ends_refused : Log → Bool
ends_refused [] = false
ends_refused (entry ∷ []) = is_refusal entry.1
ends_refused (entry ∷ next ∷ log) = ends_refused (next ∷ log)

-- what was asked by commands, and not for the start
abbrev pub of_commands : Phase → Log → Log
of_commands (phases.Fresh (Some path)) log = drop 1 log
of_commands at log = log

-- Where the fault of a file comes from: the outside refused a file in this call, or a command read one that isn't there, or the run
-- had failed by a file's answer before.
abbrev pub FileRefused : SessionValue → Log → ℕ → ℕ → Type 0
FileRefused from log failed_before failed =
    (failed_before < failed) ⊎ (EndsMissing (of_commands from.phase log) ⊎ (from.phase ≡ phases.Over (Err File)))
