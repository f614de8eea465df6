use Rattle.std.proofs.Common.{◌∙◌, refl, sym}
use Rattle.std.proofs.Math.Seq.{drop-length}
use Rattle.std.proofs.lemmas.Result.{err_from_is_err_and}
use Rattle.ed_syntax.specs.PublicScript.{script_value}
use Rattle.ed_session.specs.Sinks.{change}
use Rattle.cert_check.specs.Certificates.{certificate_value}
use Rattle.ed_calls.specs.Run as checked
use Rattle.ed_calls.proofs.Checks.{added_is, added_twice, came_of, came_outside, came_untested, headline_of, headline_untested}
use Rattle.ed_calls.proofs.running.run_checked.Goals as goal

pub returns-in-Refused-clause-came : goal.returns-in-Refused-clause-came
returns-in-Refused-clause-came g c =
    checked.refused c.in-Refused.place (sym c.in_ok-place.ensures.exact ∙ c.in-Refused.is) (drop-length (g.O.Outside.log c.args.outside.now)) refl refl

pub returns-in_err-is_other-clause-came : goal.returns-in_err-is_other-clause-came
returns-in_err-is_other-clause-came g c =
    let p = err_from_is_err_and c.from_residual-in_err-is_other.result c.from_residual-in_err-is_other.ensures.1 in
    rw (p.1, p.2) (came_untested (script_value c.args.script) (certificate_value c.args.certificate.now) c.args.options c.in_ok-start.start _ _
    (sym c.in_ok-place.ensures.exact ∙ c.in_default.is) (c.if-not-is_path.ensures.exact.0 refl) (added_is _ _ _ c.in_ok-start.ensures.asked))

pub returns-in_err-is_other-clause-headline : goal.returns-in_err-is_other-clause-headline
returns-in_err-is_other-clause-headline g c =
    let p = err_from_is_err_and c.from_residual-in_err-is_other.result c.from_residual-in_err-is_other.ensures.1 in
    rw (p.1, p.2)
    (headline_untested (script_value c.args.script) (certificate_value c.args.certificate.now) c.args.options c.in_ok-start.start _
    (g.O.Outside.failures c.args.outside.now) (g.O.Outside.failures c.read_start.new.outside) (change (g.W.Sink.state c.args.sink.now) (g.W.Sink.state c.args.sink.now))
    (added_is _ _ _ c.in_ok-start.ensures.asked))

pub returns-then-is_other-clause-came : goal.returns-then-is_other-clause-came
returns-then-is_other-clause-came g c =
    came_outside (script_value c.args.script) (certificate_value c.args.certificate.now) c.args.options c.in_ok-start.start _ _
    (sym c.in_ok-place.ensures.exact ∙ c.in_default.is) (c.if-not-is_path.ensures.exact.0 refl)
    c.in_ok-start.ensures.missing (c.in_ok-is_other.ensures.outside c.if-is_other.true) (added_is _ _ _ c.in_ok-start.ensures.asked)

pub returns-clause-came : goal.returns-clause-came
returns-clause-came g c =
    let s = c.in_ok-start in
    came_of (script_value c.args.script) (certificate_value c.args.certificate.now) c.args.options s.start _ _ _
    (sym c.in_ok-place.ensures.exact ∙ c.in_default.is) (c.if-not-is_path.ensures.exact.0 refl)
    s.ensures.missing (c.in_ok-is_other.ensures.inside c.if-is_other.false) _ _
    (added_twice _ _ _ _ _ s.ensures.asked c.run_over.ensures.log) c.outcome.ensures.value c.run_over.ensures.ran

pub returns-clause-headline : goal.returns-clause-headline
returns-clause-headline g c =
    let s = c.in_ok-start in
    let accepted = c.in_default.is in
    headline_of (script_value c.args.script) (certificate_value c.args.certificate.now) c.args.options s.start _ _ _
    (sym c.in_ok-place.ensures.exact ∙ accepted) (c.if-not-is_path.ensures.exact.0 refl)
    s.ensures.missing (c.in_ok-is_other.ensures.inside c.if-is_other.false) _ _ _ c.read_start.ensures.rises s.ensures.refused s.ensures.not_done c.run_over.ensures.rises _ _
    (added_twice _ _ _ _ _ s.ensures.asked c.run_over.ensures.log) c.outcome.ensures.value (c.in_ok-place.ensures.sound accepted) c.run_over.ensures.ran
    c.run_over.ensures.file_refused c.run_over.ensures.output_refused
