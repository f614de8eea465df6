-- What is found of a script that is judged (our own division of the work).
use Rattle.std.specs.Prelude.{◌≡◌, ℕ, List, Some, None}
use Rattle.ed_syntax.specs.PublicScript.{script_value}
use Rattle.ed_syntax.specs.reading.Reading.{script_of}
use Rattle.cert_check.specs.declared.checker.verdict.Place.{Place}
use Rattle.analyser.specs.Analysis.{HasTextIfVouched}
use Rattle.analyser.specs.declared.analysis.Analysis.{Analysis}
use Rattle.analyser.specs.declared.analysis.Start.{Start}
use Rattle.hints.specs.Passing.{IsAllowed}
use Rattle.ed_calls.specs.declared.judging.Finding.{Finding}
use Rattle.ed_calls.specs.declared.judging.Finding.TheVariants.{Unusable, Judged}
use Rattle.ed_calls.specs.declared.judging.Judged as judged
use Rattle.ed_calls.specs.declared.starts.Starts.{Starts}
use Rattle.ed_calls.specs.Names.{first_unusable}
use Rattle.ed_calls.specs.Starts.{IsJudgedFor}
use Rattle.ed_calls.specs.Vouch.{IsAnswerFor}

-- a script, of which no command asks for a file by what isn't UTF-8 before a need fails, as it was read, the start that it is judged over, and the
-- analyser's answer
pub record IsJudged (script : List ℕ) (starts : Starts) (one : judged.Judged) : Type 0 where
  pub read : script_value one.script ≡ script_of script
  pub usable : first_unusable (script_of script) one.start one.analysis ≡ None
  pub start : IsJudgedFor script starts one.start
  pub answer : IsAnswerFor script one.start one.analysis
  pub texts : HasTextIfVouched one.analysis
  pub allowed : IsAllowed one.start

-- the place of the first command that does, where one does
pub record IsUnusable (script : List ℕ) (starts : Starts) (place : Place) : Type 0 where
  pub start : Start
  pub answer : Analysis
  pub over : IsJudgedFor script starts start
  pub exact : IsAnswerFor script start answer
  pub named : first_unusable (script_of script) start answer ≡ Some place

abbrev pub IsFinding : (script : List ℕ) → Starts → Finding → Type 0
IsFinding script starts (Unusable place) = IsUnusable script starts place
IsFinding script starts (Judged one) = IsJudged script starts one
