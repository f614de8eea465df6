-- What comes of a script that is run only after its check: what was asked and answered, what was written, and what is told (our
-- choice: the start file is read once, after the check and before the run).
use Rattle.std.specs.Prelude.{◌≡◌, ◌≢◌, ◌⊎◌, ◌++◌, ℕ, List, [], ◌∷◌, Option, Some, None, IfSome, Result, Ok, Err}
use Rattle.ed_base.specs.Fault.{status_of}
use Rattle.ed_base.specs.declared.fault.Fault.{Fault}
use Rattle.ed_base.specs.declared.fault.Fault.TheVariants.{Memory}
use Rattle.ed_syntax.specs.declared.options.Ending.{Ending}
use Rattle.ed_syntax.specs.declared.options.Options.{Options}
use Rattle.ed_syntax.specs.declared.request.Answer.{Answer}
use Rattle.ed_syntax.specs.declared.request.Request.TheVariants as request
use Rattle.ed_syntax.specs.Commands.{Script}
use Rattle.ed_syntax.specs.meaning.Runs.{run}
use Rattle.ed_syntax.specs.spelling.Spellings.{SpellsScript}
use Rattle.ed_session.specs.Drives.{Log, answers, requests}
use Rattle.ed_session.specs.Sinks.{SinkChange, SinkState, change}
use Rattle.cert_check.specs.declared.checker.verdict.Place.{Place}
use Rattle.cert_check.specs.declared.checker.verdict.Verdict.TheVariants.{Accepted, Refused}
use Rattle.cert_check.specs.Certificates.{Certificate}
use Rattle.cert_check.specs.text.HasText.{IsText}
use Rattle.cert_check.specs.checker.Sound.{IsAllowed, start_lines}
use Rattle.cert_check.specs.checker.Valid.{judged}
use Rattle.ed_calls.specs.declared.running.Ran.{Ran}
use Rattle.ed_calls.specs.declared.running.Ran.TheVariants as ran
use Rattle.ed_calls.specs.declared.told.Origin.{Origin}
use Rattle.ed_calls.specs.declared.told.Origin.TheVariants.{Given}
use Rattle.ed_calls.specs.declared.told.Told.{Told}
use Rattle.ed_calls.specs.Edit.{ComesTo}
use Rattle.ed_calls.specs.Headline.{Headline}
use Rattle.ed_calls.specs.Told.{IsUnread, Says, Tells, outside_of, verdict_told}

-- what is asked for the start and answered: the file at its path is read once, if it has one
abbrev pub reading : Option (List ℕ) → Answer → Log
reading None given = []
reading (Some path) given = (request.Read path, given) ∷ []

-- the lines of a start, where they are known, aren't such as the certificate allows: they are too few or too many, a pattern that it states is
-- matched by none of them, or they haven't the landmarks that it states
abbrev pub LiesOutside : Certificate → Option (List (List ℕ)) → Type 0
LiesOutside c None = ⊥
LiesOutside c (Some lines) = IsAllowed c lines → ⊥

-- The start is another than the certificate's: its path is, and nothing was asked; or it was read, and its lines aren't allowed.
pub data StartsOutside (c : Certificate) (path : Option (List ℕ)) (log : Log) : Type 0 where
  elsewhere : path ≢ c.path → log ≡ [] → StartsOutside c path log
  not_allowed : (given : Answer) → path ≡ c.path → log ≡ reading path given → LiesOutside c (start_lines path (answers log)) → StartsOutside c path log

-- the start is the certificate's: its path is, and it was read first, and its lines are allowed, unless its file was refused
pub record StartsInside (c : Certificate) (path : Option (List ℕ)) (log : Log) : Type 0 where
  pub named : path ≡ c.path
  pub given : Answer
  pub later : Log
  pub read : log ≡ reading path given ++ later
  pub allowed : IfSome (start_lines path (answers log)) (IsAllowed c)

-- what is told of a run's end
abbrev pub told_of : Result Ending Fault → Result Ran Fault
told_of (Ok ending) = Ok (ran.Done ending)
told_of (Err fault) = Err fault

-- nothing was asked but the start, whose path is the certificate's
abbrev pub OnlyReads : Certificate → (path : Option (List ℕ)) → Log → Type 0
OnlyReads c path log = (path ≡ c.path) × ((given : Answer) × (log ≡ reading path given))

-- where the script isn't run, the sink isn't written to
abbrev pub Untouched : SinkChange → Type 0
Untouched sink = sink.after ≡ sink.before

-- A script with its certificate came to this. The certificate is refused; or the start is another; or the script was run over the start
-- that was read; or before that there was no memory, for the check, for the test of the start or for the run.
pub data CheckedRun (script : Script) (c : Certificate) (o : Options) (log : Log) (sink : SinkChange) (result : Result Ran Fault) : Type 0 where
  refused : (place : Place) → judged script c ≡ Refused place → log ≡ [] → Untouched sink → result ≡ Ok (ran.Refused place) → CheckedRun script c o log sink result
  outside : judged script c ≡ Accepted → StartsOutside c o.path log → Untouched sink → result ≡ Ok ran.StartOutside → CheckedRun script c o log sink result
  driven : (ended : Result Ending Fault) → judged script c ≡ Accepted → StartsInside c o.path log →
      ComesTo (run script o (answers log)) (requests log) sink ended → result ≡ told_of ended → CheckedRun script c o log sink result
  no_memory : (log ≡ []) ⊎ (judged script c ≡ Accepted) × OnlyReads c o.path log →
      Untouched sink → result ≡ Err Memory → CheckedRun script c o log sink result

-- what is told of a checked run besides its own output, by a certificate that comes from there
abbrev pub ran_told : Origin → Result Ran Fault → Told
ran_told origin (Ok (ran.Refused place)) = verdict_told (Refused place)
ran_told origin (Ok ran.StartOutside) = outside_of origin
ran_told origin (Ok (ran.Done ending)) = record { output = []; status = 0 }
ran_told origin (Err f) = record { output = []; status = status_of f }

-- a script was run where its certificate allows that, and what came of it was told
pub record RunsBy (origin : Origin) (script : Script) (c : Certificate) (o : Options) (log : Log) (may_fail : Fault → Type 0) (sink : SinkChange) (status : ℕ) : Type 0 where
  pub result : Result Ran Fault
  pub between : SinkState
  pub came : CheckedRun script c o log (change sink.before between) result
  pub headline : Headline script c o log may_fail result
  pub told : Tells (ran_told origin result) (change between sink.after) status

-- `run`: there is no certificate, or the script that these bytes spell was checked and run, and what came of that was told
pub data Runs (script certificate : List ℕ) (o : Options) (log : Log) (may_fail : Fault → Type 0) (sink : SinkChange) (status : ℕ) : Type 0 where
  unbegun : log ≡ [] → Says (IsUnread certificate) sink status → Runs script certificate o log may_fail sink status
  checked : (s : Script) (c : Certificate) → SpellsScript script s → IsText certificate c → RunsBy Given s c o log may_fail sink status →
      Runs script certificate o log may_fail sink status
