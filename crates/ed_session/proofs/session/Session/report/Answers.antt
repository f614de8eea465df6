use Rattle.std.proofs.Common.{◌≡◌, ◌∙◌, ap, subst}
use Rattle.std.proofs.lemmas.Bool.{false_from_ne_true}
use Rattle.ed_session.specs.Insides.{EndsBy}
use Rattle.ed_session.specs.Sessions.{is_over}
use Rattle.ed_session.proofs.Advancing.{hands_out_report}
use Rattle.ed_session.proofs.session.Session.report.Goals as goal

pub returns-clause-given : goal.returns-clause-given
returns-clause-given g c = λ is.
    let i = c.self.inside in
    let v = c.self.view_is in
    let help : i.modes.help ≡ c.args.self.now.present.help = ap (λ u. u.present.help) v in
    let untold = false_from_ne_true i.told
    (λ h. let n = (c.self.invariant.ended h).0 in let r = ap (λ u. is_over u.phase) v ∙ c.requires.running in cc) in
    hands_out_report c.args.self.now _ c.args.fault _ c.requires.running c.requires.handed_out
    (subst (λ b. EndsBy b c.args.fault c.end.new.phase c.end.result) help c.end.ensures.ended)
    is help (ap (λ u. u.pending) v ∙ c.requires.handed_out) untold
