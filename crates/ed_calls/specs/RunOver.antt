-- What the run over a start that was read comes to (our own division of the work).
use Rattle.std.specs.Prelude.{◌≡◌, ◌++◌, ℕ, List, [], Option, Some, None, Result, Err}
use Rattle.ed_base.specs.Lines.{lines_of}
use Rattle.ed_base.specs.declared.fault.Fault.{Fault}
use Rattle.ed_base.specs.declared.fault.Fault.TheVariants.{Memory}
use Rattle.ed_syntax.specs.declared.options.Ending.{Ending}
use Rattle.ed_syntax.specs.declared.options.Options.{Options}
use Rattle.ed_syntax.specs.declared.request.Answer.{Answer}
use Rattle.ed_syntax.specs.declared.request.Answer.TheVariants as answer
use Rattle.ed_syntax.specs.Commands.{Script}
use Rattle.ed_syntax.specs.meaning.Runs.{run}
use Rattle.ed_session.specs.Drives.{Log, answers, requests}
use Rattle.ed_session.specs.Sinks.{SinkChange}
use Rattle.ed_calls.specs.Edit.{ComesTo}
use Rattle.ed_calls.specs.Run.{Untouched, reading}

-- the lines of a file by the answer to its read
abbrev pub lines_told : Answer → Option (List (List ℕ))
lines_told (answer.Bytes bytes) = Some (lines_of bytes)
lines_told answer.Missing = Some []
lines_told other = None

-- A script was run over a start that was answered so, and was answered this from then on; or there was no memory to begin.
pub data RunsOver (script : Script) (o : Options) (start : Answer) (later : Log) (sink : SinkChange) (result : Result Ending Fault) : Type 0 where
  driven : ComesTo (run script o (answers (reading o.path start ++ later))) (requests (reading o.path start ++ later)) sink result →
      RunsOver script o start later sink result
  no_memory : later ≡ [] → Untouched sink → result ≡ Err Memory → RunsOver script o start later sink result
