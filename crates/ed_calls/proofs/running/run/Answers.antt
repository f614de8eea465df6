-- What came of the certificate's text is told.
use Rattle.std.proofs.Math.Seq.{drop-length}
use Rattle.std.proofs.lemmas.Result.{IfOk-weaker}
use Rattle.ed_syntax.specs.PublicScript.{script_value}
use Rattle.cert_check.specs.Certificates.{certificate_value}
use Rattle.ed_calls.specs.Run as meaning
use Rattle.ed_calls.specs.Told.{IsUnread}
use Rattle.ed_calls.proofs.Sayings.{runs_of, says_of, unread_status}
use Rattle.ed_calls.proofs.running.run.Goals as goal

pub returns-in-Err-clause-came : goal.returns-in-Err-clause-came
returns-in-Err-clause-came g c =
    meaning.unbegun (drop-length (g.O.Outside.log c.args.outside.now))
    (says_of (IsUnread c.args.certificate.now) c.unread_told.result _ _
    (IfOk-weaker c.unread_told.result _ _ (λ told unread. unread c.args.certificate.now c.in-Err.ensures.exact) c.unread_told.ensures.value) c.tell.ensures.says)

pub returns-in-Err-clause-status : goal.returns-in-Err-clause-status
returns-in-Err-clause-status g c =
    unread_status c.args.certificate.now _ _
    (says_of (IsUnread c.args.certificate.now) c.unread_told.result _ _
    (IfOk-weaker c.unread_told.result _ _ (λ told unread. unread c.args.certificate.now c.in-Err.ensures.exact) c.unread_told.ensures.value) c.tell.ensures.says)

pub returns-clause-came : goal.returns-clause-came
returns-clause-came g c =
    runs_of c.scripts_are_read_as_spelled.ensures.spelled c.args.script.now c.args.certificate.now (script_value c.in-Ok-read_script.script)
    (certificate_value c.in-Ok.certificate) c.args.options _ _ _ _ c.in-Ok-read_script.ensures.value c.in-Ok.ensures.exact c.run_by.ensures.came
