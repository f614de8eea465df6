-- The headline. If the checker accepts a script with its certificate, then for every start file whose number of lines lies in the
-- certificate's bounds and that has a matching line for each pattern stated at its start and that has the landmarks stated at its start, and
-- whatever other files hold, the editor runs the script to its end with no fault but want of memory, a refused file or a refused output, leaves
-- a number of lines within the certified final bounds, and asks to write only listed paths. A certificate of version one states no pattern, and
-- one of version one or two no landmark.
use Rattle.std.specs.Prelude.{◌≡◌, ◌⊎◌, ℕ, List, [], Option, IfSome, IsTrue, All, Result, Ok, Err}
use Rattle.std.specs.List.{list_all}
use Rattle.ed_base.specs.declared.fault.Fault.{Fault}
use Rattle.ed_base.specs.declared.fault.Fault.TheVariants.{Memory, File, Output}
use Rattle.ed_syntax.specs.declared.options.Options.{Options}
use Rattle.ed_syntax.specs.Commands.{Script}
use Rattle.ed_syntax.specs.declared.options.Ending.{Ending}
use Rattle.ed_syntax.specs.declared.request.Answer.{Answer}
use Rattle.ed_syntax.specs.meaning.Runs.{run}
use Rattle.ed_syntax.specs.meaning.Verbs.{is_step}
use Rattle.ed_session.specs.Drives.{Log, answers, requests, Drove}
use Rattle.ed_session.specs.Sessions.{SessionValue, rest}
use Rattle.ed_session.specs.Sinks.{SinkChange, Failed}
use Rattle.cert_check.specs.declared.checker.verdict.Verdict.TheVariants.{Accepted}
use Rattle.cert_check.specs.Certificates.{Certificate}
use Rattle.ed_rules.specs.LineBounds.{IsWithin}
use Rattle.cert_check.specs.checker.Sound.{IsAllowed, MayAsk, start_lines}
use Rattle.cert_check.specs.checker.Valid.{judged}
use Rattle.ed_calls.specs.Edit.{FileIsLost}
use Rattle.ed_calls.specs.declared.running.Ran.{Ran}
use Rattle.ed_calls.specs.declared.running.Ran.TheVariants.{Done}

-- The faults that no certificate excludes, by the counts of refused files before and after, and by the sink: there was no memory; a file
-- was refused, as the start may be, or a command read one that isn't there; the sink refused the output.
abbrev pub MayFail : Option (List ℕ) → Log → (files_before files : ℕ) → SinkChange → Fault → Type 0
MayFail path log files_before files sink Memory = Unit {0}
MayFail path log files_before files sink File = FileIsLost path log files_before files
MayFail path log files_before files sink Output = Failed sink
MayFail path log files_before files sink other = ⊥

-- the run came to its end with as many lines as are certified, or to such a fault
abbrev pub EndsWell : Certificate → (may_fail : Fault → Type 0) → Result Ran Fault → Type 0
EndsWell c may_fail (Ok (Done ending)) = IsWithin c.low c.high ending.lines
EndsWell c may_fail (Ok other) = ⊥
EndsWell c may_fail (Err fault) = may_fail fault

abbrev pub Headline : Script → Certificate → Options → Log → (may_fail : Fault → Type 0) → Result Ran Fault → Type 0
Headline script c o log may_fail result = judged script c ≡ Accepted → o.path ≡ c.path → IfSome (start_lines o.path (answers log)) (IsAllowed c) →
    EndsWell c may_fail result × All (MayAsk c) (requests log)

-- the ends of a run that no certificate excludes: as many lines as are certified, or a fault of memory, of a file or of the output
abbrev pub EndsAsCertified : Certificate → Result Ending Fault → Type 0
EndsAsCertified c (Ok ending) = IsWithin c.low c.high ending.lines
EndsAsCertified c (Err f) = (f ≡ Memory) ⊎ ((f ≡ File) ⊎ (f ≡ Output))

-- The headline for a session that is driven by whoever has made it: all its run is left, and nothing is pending. Where the faults of files
-- and of output come from `drive` says.
abbrev pub AcceptedRunsEndWell : Type 0
AcceptedRunsEndWell = (script : Script) (c : Certificate) (o : Options) (from : SessionValue) (log : Log) (sink : SinkChange) (result : Result Ending Fault) →
    IsTrue (list_all is_step script.steps) → judged script c ≡ Accepted → o.path ≡ c.path → ((given : List Answer) → rest from given ≡ run script o given) → from.pending ≡ [] →
    IfSome (start_lines o.path (answers log)) (IsAllowed c) → Drove from log sink result → EndsAsCertified c result × All (MayAsk c) (requests log)
