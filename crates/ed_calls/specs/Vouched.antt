-- What comes of a script that is run only if it is vouched for: the headline, with the certificate that the call made itself.
use Rattle.std.specs.Prelude.{◌≡◌, ℕ, List, [], None}
use Rattle.ed_base.specs.declared.fault.Fault.{Fault}
use Rattle.ed_syntax.specs.declared.options.Options.{Options}
use Rattle.ed_syntax.specs.Commands.{Script}
use Rattle.ed_syntax.specs.reading.Reading.{script_of}
use Rattle.ed_syntax.specs.spelling.Spellings.{SpellsScript}
use Rattle.ed_session.specs.Drives.{Log}
use Rattle.ed_session.specs.Sinks.{SinkChange}
use Rattle.cert_check.specs.declared.certificate.Certificate.{Certificate}
use Rattle.cert_check.specs.Certificates.{certificate_value}
use Rattle.analyser.specs.declared.analysis.Start.{Start}
use Rattle.analyser.specs.declared.analysis.Analysis.TheVariants.{Vouched}
use Rattle.ed_calls.specs.declared.starts.Starts.{Starts}
use Rattle.ed_calls.specs.declared.told.Origin.TheVariants.{Made}
use Rattle.ed_calls.specs.declared.told.Told.{Told}
use Rattle.ed_calls.specs.Names.{first_unusable}
use Rattle.ed_calls.specs.Run.{RunsBy}
use Rattle.ed_calls.specs.Starts.{IsJudgedFor}
use Rattle.ed_calls.specs.Told.{Says}
use Rattle.ed_calls.specs.Vouch.{IsAnswerFor, Vouches}

-- it is told as `vouch` does that a script isn't vouched for
pub record IsRefused (script : List ℕ) (starts : Starts) (told : Told) : Type 0 where
  pub vouches : Vouches script starts told
  pub status : told.status ≡ 1

-- `edit --vouched`: the script that these bytes spell isn't vouched for, and nothing was asked of the files; or a certificate was made for the
-- start that it is judged over, and it was run where that allows it. Of a start that isn't one of the certificate's nothing is told, with status 5.
pub data RunsVouched (script : List ℕ) (starts : Starts) (o : Options) (log : Log) (may_fail : Fault → Type 0) (sink : SinkChange) (status : ℕ) : Type 0 where
  refused : log ≡ [] → Says (IsRefused script starts) sink status → RunsVouched script starts o log may_fail sink status
  vouched : (read : Script) (start : Start) (c : Certificate) → SpellsScript script read → IsJudgedFor script starts start →
      IsAnswerFor script start (Vouched c) → first_unusable (script_of script) start (Vouched c) ≡ None → RunsBy Made read (certificate_value c) o log may_fail sink status →
      RunsVouched script starts o log may_fail sink status
