-- What `explain` tells of a script.
use Rattle.std.specs.Prelude.{◌≡◌, ℕ, List, [], map, Some, None}
use Rattle.ed_syntax.specs.Commands.{Script}
use Rattle.ed_syntax.specs.reading.Reading.{script_of}
use Rattle.ed_syntax.specs.spelling.Spellings.{SpellsScript}
use Rattle.cert_check.specs.declared.checker.verdict.Place.{Place}
use Rattle.cert_check.specs.declared.checker.verdict.Verdict.TheVariants.{Accepted, Refused}
use Rattle.cert_check.specs.Certificates.{Certificate, Note, note_value, certificate_value}
use Rattle.cert_check.specs.checker.Valid.{judged}
use Rattle.cert_check.specs.text.HasText.{IsText}
use Rattle.analyser.specs.declared.analysis.Start.{Start}
use Rattle.analyser.specs.declared.analysis.Analysis.{Analysis}
use Rattle.analyser.specs.declared.analysis.Analysis.TheVariants.{Vouched, Cannot}
use Rattle.ed_calls.specs.declared.explaining.commands.Explained.{Explained}
use Rattle.ed_calls.specs.declared.starts.Starts.{Starts}
use Rattle.ed_calls.specs.declared.told.Told.{Told}
use Rattle.ed_calls.specs.Explaining.{Woven, explained, last_three, up_to}
use Rattle.ed_calls.specs.Names.{first_unusable}
use Rattle.ed_calls.specs.Starts.{IsJudgedFor}
use Rattle.ed_calls.specs.Told.{IsUnread, verdict_told}
use Rattle.ed_calls.specs.Vouch.{IsAnswerFor}

-- the lines of these commands were told, and the status is this one
pub record AreTold (commands : List Explained) (status : ℕ) (told : Told) : Type 0 where
  pub lines : Woven commands told.output
  pub ends : told.status ≡ status

-- those of all counted commands, by what these notes say
abbrev pub IsExplained : List Note → Told → Type 0
IsExplained notes told = AreTold (explained notes) 0 told

-- by the analyser's answer: those of all counted commands, or of the last three at most before the place of the need that fails
abbrev pub IsExplainedBy : Analysis → Told → Type 0
IsExplainedBy (Vouched c) told = IsExplained (certificate_value c).notes told
IsExplainedBy (Cannot place why notes) told = AreTold (last_three (up_to place (explained (map note_value notes.items)))) 1 told

-- A script is explained by the analyser's answer over the start that it is judged over, which is as it is for `vouch`. Where it is refused for a
-- name that isn't UTF-8 no line is told.
pub data Explains (script : List ℕ) (starts : Starts) (told : Told) : Type 0 where
  answered : (start : Start) (answer : Analysis) → IsJudgedFor script starts start → IsAnswerFor script start answer →
      first_unusable (script_of script) start answer ≡ None → IsExplainedBy answer told → Explains script starts told
  unusable : (start : Start) (answer : Analysis) (place : Place) → IsJudgedFor script starts start → IsAnswerFor script start answer →
      first_unusable (script_of script) start answer ≡ Some place → told ≡ record { output = []; status = 1 } → Explains script starts told

-- It is explained by a certificate that the checker accepts for it. Else it is told why it isn't, as `check` tells that.
pub data ExplainsBy (script certificate : List ℕ) (told : Told) : Type 0 where
  accepted : (s : Script) (c : Certificate) → SpellsScript script s → IsText certificate c → judged s c ≡ Accepted → IsExplained c.notes told →
      ExplainsBy script certificate told
  refused : (s : Script) (c : Certificate) (place : Place) → SpellsScript script s → IsText certificate c → judged s c ≡ Refused place →
      told ≡ verdict_told (Refused place) → ExplainsBy script certificate told
  no_certificate : IsUnread certificate told → ExplainsBy script certificate told
