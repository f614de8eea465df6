-- What a run of the program means, from its script's bytes to its exit status (XCU ed, "Stdout", "Exit Status", "Consequences of Errors").
use Rattle.std.specs.Prelude.{ℕ, ◌≡◌, ◌≢◌, ◌<◌, ◌⊎◌, ◌++◌, List, [], drop, Option, Some, None, Result, Ok, Err}
use Rattle.ed_base.specs.Fault.{status_of}
use Rattle.ed_base.specs.declared.fault.Fault.{Fault}
use Rattle.ed_base.specs.declared.fault.Fault.TheVariants as fault
use Rattle.ed_syntax.specs.declared.options.Ending.{Ending}
use Rattle.ed_syntax.specs.declared.options.Options.{Options}
use Rattle.ed_syntax.specs.declared.request.Request.{Request}
use Rattle.ed_syntax.specs.Commands.{Script}
use Rattle.ed_syntax.specs.meaning.Progress.{Progress, Ends, asked_of, output_of, stop_of, RunsOut}
use Rattle.ed_syntax.specs.meaning.Runs.{run}
use Rattle.ed_syntax.specs.spelling.Spellings.{SpellsScript}
use Rattle.ed_session.specs.Drives.{Log, answers, requests, EndsMissing}
use Rattle.ed_session.specs.Sinks.{SinkChange, Took, TookNothing, Failed}

-- the exit status of a run's end
abbrev pub status_at : Result Ending Fault → ℕ
status_at (Ok ending) = 0
status_at (Err fault) = status_of fault

-- A run has come to this end, in which it asked for just this. It ended, and its output was written; or it was out of memory at one of its
-- steps, and the output of the run cut there was written; or the sink failed, when it had taken a front of the one output or the other
-- and not all.
pub data ComesTo (whole : Progress) (asked : List Request) (sink : SinkChange) (result : Result Ending Fault) : Type 0 where
  ended : stop_of whole ≡ Ends result → asked_of whole ≡ asked → Took sink (output_of whole) → ComesTo whole asked sink result
  cut : (output : List ℕ) → RunsOut whole output asked → Took sink output → result ≡ Err fault.Memory → ComesTo whole asked sink result
  refused : (front more : List ℕ) → (asked_of whole ≡ asked) × (output_of whole ≡ front ++ more) ⊎ RunsOut whole (front ++ more) asked → more ≢ [] →
      Took sink front → Failed sink → result ≡ Err fault.Output → ComesTo whole asked sink result

-- there was no memory to begin, so nothing was asked or written
abbrev pub Unbegun : List Request → SinkChange → Result Ending Fault → Type 0
Unbegun asked sink result = (asked ≡ []) × TookNothing sink × (result ≡ Err fault.Memory)

-- what was asked after the start
abbrev pub after_start : Option (List ℕ) → Log → Log
after_start None log = log
after_start (Some path) log = drop 1 log

-- where a file's fault comes from: a file was refused, as the start may be, or a command read one that isn't there
abbrev pub FileIsLost : Option (List ℕ) → Log → (refusals_before refusals : ℕ) → Type 0
FileIsLost path log refusals_before refusals = (refusals_before < refusals) ⊎ EndsMissing (after_start path log)

-- The run of the script that the bytes spell, with the answers of this log of requests, has come to an end with this status. The counts are of
-- the files that were refused before the run and by its end.
pub record Correct (bytes : List ℕ) (options : Options) (log : Log) (refusals_before refusals : ℕ) (sink : SinkChange) (status : ℕ) : Type 0 where
  pub script : Script
  pub spelled : SpellsScript bytes script
  pub result : Result Ending Fault
  pub comes : ComesTo (run script options (answers log)) (requests log) sink result ⊎ Unbegun (requests log) sink result
  pub file_refused : result ≡ Err fault.File → FileIsLost options.path log refusals_before refusals
  pub status_is : status ≡ status_at result
