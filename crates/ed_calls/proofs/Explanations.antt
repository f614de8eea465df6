-- What is told to explain a script is what the program says.
use Rattle.std.proofs.Common.{◌≡◌, ◌≤◌, ℕ, List, [], Some, Result, Ok, arith}
use Rattle.std.specs.Prelude.{IfOk}
use Rattle.std.specs.declared.alloc.AllocError.{AllocError}
use Rattle.ed_session.specs.Sinks.{SinkChange}
use Rattle.cert_check.specs.declared.checker.verdict.Place.{Place}
use Rattle.cert_check.specs.declared.checker.verdict.Verdict.TheVariants.{Refused}
use Rattle.analyser.specs.declared.analysis.Analysis.{Analysis}
use Rattle.analyser.specs.declared.analysis.Analysis.TheVariants.{Vouched, Cannot}
use Rattle.ed_calls.specs.declared.judging.Judged.{Judged}
use Rattle.ed_calls.specs.declared.starts.Starts.{Starts}
use Rattle.ed_calls.specs.declared.told.Told.{Told}
use Rattle.ed_calls.specs.Explains.{Explains, ExplainsBy, IsExplainedBy, answered, unusable, accepted, refused, no_certificate}
use Rattle.ed_calls.specs.Finding.{IsJudged, IsUnusable}
use Rattle.ed_calls.specs.Told.{Says}
use Rattle.ed_calls.proofs.Sayings.{says_few, says_more, says_of, told_few, unread_few, verdict_few}

by_few : (script certificate : List ℕ) (told : Told) → ExplainsBy script certificate told → told.status ≤ 4
by_few script certificate told (accepted s c spelled text is by) = rw by.ends (omega arith)
by_few script certificate told (refused s c place spelled text is by) = told_few told _ by (verdict_few (Refused place))
by_few script certificate told (no_certificate unread) = unread_few certificate told unread

pub by_status : (script certificate : List ℕ) (sink : SinkChange) (status : ℕ) → Says (ExplainsBy script certificate) sink status → status ≤ 4
by_status script certificate sink status says = says_few (ExplainsBy script certificate) sink status (by_few script certificate) says

-- the analyser's answer was told
pub explains_of : (script : List ℕ) (starts : Starts) (one : Judged) (made : Result Told AllocError) (sink : SinkChange) (status : ℕ) → IsJudged script starts one →
    IfOk made (IsExplainedBy one.analysis) → Says (λ t. made ≡ Ok t) sink status → Says (Explains script starts) sink status
explains_of script starts one made sink status found is says =
    says_more (IsExplainedBy one.analysis) (Explains script starts) sink status
    (λ t by. answered one.start one.analysis found.start found.answer found.usable by) (says_of (IsExplainedBy one.analysis) made sink status is says)

-- nothing was, of a command that asks for a file by what isn't UTF-8
pub unusable_of : (script : List ℕ) (starts : Starts) (place : Place) (told : Told) (sink : SinkChange) (status : ℕ) → IsUnusable script starts place →
    told ≡ record { output = []; status = 1 } → Says (λ t. ◌≡◌ {A = Result Told AllocError} (Ok told) (Ok t)) sink status → Says (Explains script starts) sink status
unusable_of script starts place told sink status found is says =
    says_of (Explains script starts) (Ok told) sink status (unusable found.start found.answer place found.over found.exact found.named is) says
