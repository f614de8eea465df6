-- What `vouch` tells of a script.
use Rattle.std.specs.Prelude.{◌≡◌, ℕ, List, Some, None}
use Rattle.ed_base.specs.declared.fault.Fault.TheVariants as fault
use Rattle.ed_syntax.specs.Commands.{Script}
use Rattle.ed_syntax.specs.reading.Reading.{script_of}
use Rattle.ed_syntax.specs.spelling.Spellings.{SpellsScript}
use Rattle.cert_check.specs.declared.checker.verdict.Place.{Place}
use Rattle.cert_check.specs.Certificates.{certificate_value}
use Rattle.cert_check.specs.text.HasText.{IsText}
use Rattle.analyser.specs.Analysis.{IsAnswer, IsValid}
use Rattle.analyser.specs.Checked.{IsChecked}
use Rattle.analyser.specs.Exactness.{IsExactAnswer}
use Rattle.analyser.specs.declared.analysis.Start.{Start}
use Rattle.analyser.specs.declared.analysis.Analysis.{Analysis}
use Rattle.analyser.specs.declared.analysis.Analysis.TheVariants.{Vouched, Cannot}
use Rattle.ed_calls.specs.declared.told.Told.{Told}
use Rattle.ed_calls.specs.Told.{cannot_told}
use Rattle.ed_calls.specs.Names.{first_unusable}
use Rattle.ed_calls.specs.declared.starts.Starts.{Starts}
use Rattle.ed_calls.specs.Starts.{IsJudgedFor}

-- the text of the certificate that vouches, or the need that fails
abbrev pub IsToldOf : Analysis → Told → Type 0
IsToldOf (Vouched c) told = IsText told.output (certificate_value c) × (told.status ≡ 0)
IsToldOf (Cannot place why notes) told = told ≡ cannot_told place why

-- The analyser's answer for the script that these bytes spell and this start. A certificate is one that the checker accepts; where a need
-- fails, all checks at the places before it hold; and the answer foretells each run of an exact script.
pub record IsAnswerFor (script : List ℕ) (start : Start) (answer : Analysis) : Type 0 where
  pub read : Script
  pub spelled : SpellsScript script read
  pub exact : IsAnswer read start answer
  pub valid : IsValid read answer
  pub checked : IsChecked read start answer
  pub foretold : IsExactAnswer read start answer

-- A script is told by the analyser's answer over the start that it is judged over; but where a command asks for a file by what isn't UTF-8, and
-- comes before the first need that fails, it is refused at that command, since a run would be refused that file.
pub data Vouches (script : List ℕ) (starts : Starts) (told : Told) : Type 0 where
  answered : (start : Start) (answer : Analysis) → IsJudgedFor script starts start → IsAnswerFor script start answer →
      first_unusable (script_of script) start answer ≡ None → IsToldOf answer told → Vouches script starts told
  unusable : (start : Start) (answer : Analysis) (place : Place) → IsJudgedFor script starts start → IsAnswerFor script start answer →
      first_unusable (script_of script) start answer ≡ Some place → told ≡ cannot_told place fault.File → Vouches script starts told
