-- Whether a script is vouched for, and its first need that fails, without the certificate or the notes that show it.
use Rattle.std.specs.Prelude.{List, Option, Some, None}
use Rattle.ed_base.specs.declared.fault.Fault.{Fault}
use Rattle.ed_syntax.specs.Commands.{Script}
use Rattle.cert_check.specs.declared.checker.verdict.Place.{Place}
use Rattle.cert_check.specs.Certificates.{Note, Certificate}
use Rattle.analyser.specs.declared.analysis.Start.{Start}
use Rattle.analyser.specs.declared.judging.Failure.{Failure}
use Rattle.analyser.specs.Analysis.{IsCertificate, IsFailure}

-- no need of the script fails over this start, as some certificate shows
abbrev pub IsVouched : Script → Start → Type 0
IsVouched script start = (c : Certificate) × IsCertificate script start c

-- the first need that fails is this one, as some notes show
abbrev pub FailsBy : Script → Start → Place → Fault → Type 0
FailsBy script start place why = (notes : List Note) × IsFailure script start place why notes

-- what is told where no certificate is made: nothing where no need fails, else the first need that fails
abbrev pub IsJudgement : Script → Start → Option Failure → Type 0
IsJudgement script start None = IsVouched script start
IsJudgement script start (Some f) = FailsBy script start f.place f.why
