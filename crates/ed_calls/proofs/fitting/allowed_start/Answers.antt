use Rattle.std.proofs.Common.{inl, inr, refl}
use Rattle.cert_check.specs.Certificates.{certificate_value}
use Rattle.ed_calls.proofs.Checks.{added_is, none_added}
use Rattle.ed_calls.proofs.StartTested.{on_err, read_inside, read_outside}
use Rattle.ed_calls.proofs.fitting.allowed_start.Goals as goal

pub returns-in_err-start-clause-untested : goal.returns-in_err-start-clause-untested
returns-in_err-start-clause-untested g c = on_err c.from_residual.result (inl (none_added _ _ c.in_err-start.ensures.unchanged))

pub returns-in_err-is_other-clause-untested : goal.returns-in_err-is_other-clause-untested
returns-in_err-is_other-clause-untested g c =
    on_err c.from_residual-in_err-is_other.result (inr (c.if-not-is_path.ensures.exact.0 refl, (c.in_ok-start.start, added_is _ _ _ c.in_ok-start.ensures.asked)))

pub returns-then-is_other-clause-tested : goal.returns-then-is_other-clause-tested
returns-then-is_other-clause-tested g c =
    let s = c.in_ok-start.ensures in
    read_outside (certificate_value c.args.certificate.now) c.args.path.now c.in_ok-start.start _ (added_is _ _ _ s.asked) s.missing
    (c.if-not-is_path.ensures.exact.0 refl) (c.in_ok-is_other.ensures.outside c.if-is_other.true)

pub returns-clause-tested : goal.returns-clause-tested
returns-clause-tested g c =
    let s = c.in_ok-start.ensures in
    read_inside (certificate_value c.args.certificate.now) c.args.path.now c.in_ok-start.start _ (added_is _ _ _ s.asked) s.missing
    (c.if-not-is_path.ensures.exact.0 refl) (c.in_ok-is_other.ensures.inside c.if-is_other.false)
