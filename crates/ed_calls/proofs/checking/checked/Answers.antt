-- The verdict is that on the certificate whose text was read, for the script that was read.
use Rattle.std.proofs.Common.{◌∙◌, ap}
use Rattle.std.proofs.lemmas.Result.{IfOk-weaker}
use Rattle.ed_syntax.specs.reading.Reading.{script_of}
use Rattle.cert_check.specs.Certificates.{certificate_value}
use Rattle.cert_check.specs.checker.Valid.{judged}
use Rattle.ed_calls.specs.Check as meaning
use Rattle.ed_calls.specs.Told.{verdict_told}
use Rattle.ed_calls.proofs.checking.checked.Goals as goal

pub returns-in_ok-verdict-in-Ok : goal.returns-in_ok-verdict-in-Ok
returns-in_ok-verdict-in-Ok c =
    let read = certificate_value c.in-Ok.certificate in
    let verdict = c.in_ok-verdict-in-Ok.ensures.exact ∙ ap (λ s. judged s read) c.in_ok-script-in-Ok.ensures.value in
    record {
      value = IfOk-weaker c.verdict_told.result _ _ (λ told is.
          meaning.verdict (script_of c.args.script.now) read (c.scripts_are_read_as_spelled.ensures.spelled c.args.script.now)
          c.in-Ok.ensures.exact (is ∙ ap verdict_told verdict)) c.verdict_told.ensures.value;
    }

pub returns-in-Err : goal.returns-in-Err
returns-in-Err c =
    record { value = IfOk-weaker c.unread_told.result _ _ (λ told unread. meaning.no_certificate (unread c.args.certificate.now c.in-Err.ensures.exact)) c.unread_told.ensures.value }
