-- The notes are those of the certificate whose text was read, if it is accepted for the script that was read.
use Rattle.std.proofs.Common.{◌∙◌, List, ap, map, subst, sym}
use Rattle.std.proofs.lemmas.Result.{IfOk-weaker}
use Rattle.ed_syntax.specs.reading.Reading.{script_of}
use Rattle.cert_check.specs.declared.certificate.Note.{Note}
use Rattle.cert_check.specs.Certificates.{certificate_value, note_value}
use Rattle.cert_check.specs.checker.Valid.{judged}
use Rattle.ed_calls.specs.Explains as meaning
use Rattle.ed_calls.specs.Told.{verdict_told}
use Rattle.ed_calls.proofs.explaining.certificate_told.Goals as goal

pub returns-in-Accepted : goal.returns-in-Accepted
returns-in-Accepted c =
    let read = certificate_value c.in-Ok.certificate in
    let verdict = c.in_ok-verdict-in-Ok.ensures.exact ∙ ap (λ s. judged s read) c.in_ok-read-in-Ok.ensures.value in
    record {
      value = IfOk-weaker c.notes_told.result _ _ (λ told is.
          meaning.accepted (script_of c.args.script.now) read (c.scripts_are_read_as_spelled.ensures.spelled c.args.script.now)
          c.in-Ok.ensures.exact (sym verdict ∙ c.in-Accepted.is)
          (subst (λ (ns : List Note). meaning.IsExplained (map note_value ns) told) c.as_slice.ensures.value is)) c.notes_told.ensures.value;
    }

pub returns-in-Ok : goal.returns-in-Ok
returns-in-Ok c =
    let read = certificate_value c.in-Ok.certificate in
    let verdict = c.in_ok-verdict-in-Ok.ensures.exact ∙ ap (λ s. judged s read) c.in_ok-read-in-Ok.ensures.value in
    record {
      value = IfOk-weaker c.verdict_told.result _ _ (λ told is.
          meaning.refused (script_of c.args.script.now) read c.in-Refused.field-0 (c.scripts_are_read_as_spelled.ensures.spelled c.args.script.now)
          c.in-Ok.ensures.exact (sym verdict ∙ c.in-Refused.is) (is ∙ ap verdict_told c.in-Refused.is)) c.verdict_told.ensures.value;
    }

pub returns : goal.returns
returns c =
    record { value = IfOk-weaker c.unread_told.result _ _ (λ told unread. meaning.no_certificate (unread c.args.certificate.now c.in-Err.ensures.exact)) c.unread_told.ensures.value }
