-- The script was run by the certificate that was made, or it is told why it isn't.
use Rattle.std.proofs.Common.{◌≡◌, None, sym, subst}
use Rattle.std.proofs.Math.Seq.{drop-length}
use Rattle.cert_check.specs.Certificates.{certificate_value}
use Rattle.ed_session.specs.Drives.{added}
use Rattle.ed_session.specs.Sinks.{change}
use Rattle.ed_syntax.specs.reading.Reading.{script_of}
use Rattle.ed_calls.specs.Finding.{IsJudged, IsUnusable}
use Rattle.ed_calls.specs.Headline.{MayFail}
use Rattle.ed_calls.specs.Names.{first_unusable}
use Rattle.ed_calls.specs.Run.{RunsBy}
use Rattle.ed_calls.specs.declared.told.Origin.TheVariants.{Made}
use Rattle.ed_calls.specs.Told.{Says}
use Rattle.ed_calls.specs.Vouch.{IsAnswerFor}
use Rattle.ed_calls.specs.Vouched as meaning
use Rattle.ed_calls.proofs.Sayings.{refused_of}
use Rattle.ed_calls.proofs.vouched.edit_vouched.Goals as goal
use Rattle.ed_calls.proofs.vouched.edit_vouched.Goals.{then-status-eq-CANNOT_STATUS, else-status-eq-CANNOT_STATUS}

pub returns-in-Ok-Unusable-clause-came : goal.returns-in-Ok-Unusable-clause-came
returns-in-Ok-Unusable-clause-came g c =
    let found : IsUnusable c.args.script.now c.args.starts c.in-Ok-Unusable.place = rw c.in-Ok-Unusable.field-0-is at c.in-Ok-Unusable.ensures.found in
    meaning.refused (drop-length (g.O.Outside.log c.args.outside.now)) (c.refuse_name.ensures.says c.args.script.now c.args.starts found)

pub returns-in-Vouched-clause-came : goal.returns-in-Vouched-clause-came
returns-in-Vouched-clause-came g c =
    let one = c.in-Ok-Judged.field-0-0 in
    let found : IsJudged c.args.script.now c.args.starts one = rw c.in-Ok-Judged.field-0-is at c.in-Ok-Judged.ensures.found in
    let log = added (g.O.Outside.log c.args.outside.now) (g.O.Outside.log c.run_by.new.outside) in
    let sink = change (g.W.Sink.state c.args.sink.now) (g.W.Sink.state c.run_by.new.sink) in
    let may_fail = MayFail c.args.options.path log (g.O.Outside.failures c.args.outside.now) (g.O.Outside.failures c.run_by.new.outside) sink in
    meaning.vouched (script_of c.args.script.now) one.start c.in-Vouched.certificate
    (c.scripts_are_read_as_spelled.ensures.spelled c.args.script.now) found.start
    (subst (IsAnswerFor c.args.script.now one.start) c.in-Vouched.is found.answer)
    (subst (λ answer. first_unusable (script_of c.args.script.now) one.start answer ≡ None) c.in-Vouched.is found.usable)
    (subst (λ s. RunsBy Made s (certificate_value c.in-Vouched.certificate) c.args.options log may_fail sink c.run_by.result) found.read c.run_by.ensures.came)

pub returns-in-Ok-Judged-clause-came : goal.returns-in-Ok-Judged-clause-came
returns-in-Ok-Judged-clause-came g c =
    let one = c.in-Ok-Judged.field-0-0 in
    let found : IsJudged c.args.script.now c.args.starts one = rw c.in-Ok-Judged.field-0-is at c.in-Ok-Judged.ensures.found in
    let same : c.if-status-eq-CANNOT_STATUS.result ≡ c.tell-status.result = elim c.if-status-eq-CANNOT_STATUS.branch [
      | then-status-eq-CANNOT_STATUS w ↦ w.result-is
      | else-status-eq-CANNOT_STATUS w ↦ w.result-is
    ] in
    meaning.refused (drop-length (g.O.Outside.log c.args.outside.now))
    (subst (Says (meaning.IsRefused c.args.script.now c.args.starts) (change (g.W.Sink.state c.args.sink.now) (g.W.Sink.state c.tell-status.new.sink))) (sym same)
    (refused_of c.args.script.now c.args.starts one found c.in-Cannot.place c.in-Cannot.why c.in-Cannot.notes c.cannot_told.result _ _ c.in-Cannot.is
    c.cannot_told.ensures.value c.tell-status.ensures.says))
