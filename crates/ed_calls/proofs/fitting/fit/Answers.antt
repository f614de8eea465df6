use Rattle.std.proofs.Math.Seq.{drop-length}
use Rattle.std.proofs.lemmas.Result.{IfOk-weaker}
use Rattle.cert_check.specs.Certificates.{certificate_value}
use Rattle.ed_calls.specs.Fits as meaning
use Rattle.ed_calls.specs.Told.{IsUnread}
use Rattle.ed_calls.proofs.StartTested.{fits_inside, fits_outside, fits_untested}
use Rattle.ed_calls.proofs.Sayings.{says_of, unread_status}
use Rattle.ed_calls.proofs.fitting.fit.Goals as goal

pub returns-in-Err-clause-came : goal.returns-in-Err-clause-came
returns-in-Err-clause-came g c =
    meaning.no_certificate (drop-length (g.O.Outside.log c.args.outside.now))
    (says_of (IsUnread c.args.certificate.now) c.unread_told.result _ _
    (IfOk-weaker c.unread_told.result _ _ (λ told unread. unread c.args.certificate.now c.in-Err.ensures.exact) c.unread_told.ensures.value) c.tell.ensures.says)

pub returns-in-Err-clause-status : goal.returns-in-Err-clause-status
returns-in-Err-clause-status g c =
    unread_status c.args.certificate.now _ _
    (says_of (IsUnread c.args.certificate.now) c.unread_told.result _ _
    (IfOk-weaker c.unread_told.result _ _ (λ told unread. unread c.args.certificate.now c.in-Err.ensures.exact) c.unread_told.ensures.value) c.tell.ensures.says)

pub returns-in-Ok-Some-clause-came : goal.returns-in-Ok-Some-clause-came
returns-in-Ok-Some-clause-came g c =
    fits_inside c.args.certificate.now (certificate_value c.in-Ok.certificate) c.args.path.now c.in-Ok-Some.start _ _ c.status_of_start.result c.in-Ok.ensures.exact
    (rw c.in-Ok-Some.field-0-is at c.in-Ok-Some.ensures.tested) c.status_of_start.ensures.value

pub returns-in-Ok-None-clause-came : goal.returns-in-Ok-None-clause-came
returns-in-Ok-None-clause-came g c =
    fits_outside c.args.certificate.now (certificate_value c.in-Ok.certificate) c.args.path.now _ c.outside_told.result _ _ c.in-Ok.ensures.exact
    (rw c.in-Ok-None.field-0-is at c.in-Ok-None.ensures.tested) c.outside_told.ensures.value c.tell-in-Ok-None.ensures.says

pub returns-clause-came : goal.returns-clause-came
returns-clause-came g c =
    fits_untested c.args.certificate.now (certificate_value c.in-Ok.certificate) c.args.path.now _ _ _ c.in-Ok.ensures.exact c.in-Err-allowed_start.ensures.untested c.status.ensures.value
