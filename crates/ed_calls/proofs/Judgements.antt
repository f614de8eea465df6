-- The status of a script that is judged is that of what `vouch` tells of it.
use Rattle.std.proofs.Common.{◌≡◌, ℕ, List, refl}
use Rattle.ed_base.specs.declared.fault.Fault.{Fault}
use Rattle.ed_base.specs.declared.fault.Fault.TheVariants as fault
use Rattle.cert_check.specs.declared.certificate.Certificate as public
use Rattle.cert_check.specs.declared.checker.verdict.Place.{Place}
use Rattle.cert_check.specs.Certificates.{certificate_value}
use Rattle.cert_check.specs.text.Text.{text_of}
use Rattle.cert_check.specs.text.HasText.{HasText}
use Rattle.analyser.specs.declared.analysis.Analysis.TheVariants.{Vouched, Cannot}
use Rattle.ed_calls.specs.Finding.{IsJudged, IsUnusable}
use Rattle.ed_calls.specs.Judging.{IsJudgement, judged}
use Rattle.ed_calls.specs.Told.{cannot_told}
use Rattle.ed_calls.specs.Vouch.{IsToldOf, answered, unusable}
use Rattle.ed_calls.specs.declared.judging.Judged.{Judged}
use Rattle.ed_calls.specs.declared.starts.Starts.{Starts}
use Rattle.ed_calls.specs.declared.told.Told.{Told}

module _ (script : List ℕ) (starts : Starts) where
  pub judged_vouched : (one : Judged) (c : public.Certificate) → IsJudged script starts one → one.analysis ≡ Vouched c → IsJudgement script starts 0
  judged_vouched one c found is =
      let told : Told = record { output = text_of (certificate_value c); status = 0 } in
      let text : HasText (certificate_value c) = rw is at found.texts in
      let so : IsToldOf one.analysis told = rw is ((text, refl), refl) in
      judged told (answered one.start one.analysis found.start found.answer found.usable so) refl

  pub judged_refused : (one : Judged) (place : Place) (why : Fault) (notes : _) → IsJudged script starts one → one.analysis ≡ Cannot place why notes →
      IsJudgement script starts 1
  judged_refused one place why notes found is =
      let so : IsToldOf one.analysis (cannot_told place why) = rw is refl in
      judged (cannot_told place why) (answered one.start one.analysis found.start found.answer found.usable so) refl

  pub judged_unusable : (place : Place) → IsUnusable script starts place → IsJudgement script starts 1
  judged_unusable place found =
      judged (cannot_told place fault.File) (unusable found.start found.answer place found.over found.exact found.named refl) refl
