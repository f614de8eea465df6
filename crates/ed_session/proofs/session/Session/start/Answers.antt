use Rattle.std.proofs.Common.{rules, ◌≡◌, ◌∙◌, ap, sym, Some}
use Rattle.ed_session.specs.declared.phase.Phase.TheVariants as phases
use Rattle.ed_session.proofs.Advancing.{as_answers}
use Rattle.ed_session.proofs.Starting.{starts_with, starts_loaded, starts_fails, fresh_keeps}
use Rattle.ed_session.proofs.session.Session.start.Goals as goal

pub returns-in-Err-clause-given : goal.returns-in-Err-clause-given
returns-in-Err-clause-given g c =
    let i = c.self.inside in
    let v = c.self.view_is in
    let path = c.in-Fresh-Some.path in
    let fresh : i.phase ≡ phases.Fresh (Some path) = search rules in
    let keeps = fresh_keeps i.phase _ _ _ _ _ _ fresh c.self.invariant.keeps in
    starts_with c.args.self.now path c.args.answer c.match-self-end.self (sym (ap (λ u. u.phase) v) ∙ fresh)
    (as_answers c.args.self.now _ _ c.args.answer _ v
    (starts_fails _ _ path c.args.answer c.in-Err.fault _ _ fresh keeps.1 (search rules) c.end.ensures.ended c.in-Err.ensures.fault (search rules) (search rules)))

pub returns-in-Ok-clause-given : goal.returns-in-Ok-clause-given
returns-in-Ok-clause-given g c =
    let i = c.self.inside in
    let v = c.self.view_is in
    let path = c.in-Fresh-Some.path in
    let fresh : i.phase ≡ phases.Fresh (Some path) = search rules in
    let keeps = fresh_keeps i.phase _ _ _ _ _ _ fresh c.self.invariant.keeps in
    starts_with c.args.self.now path c.args.answer c.match-self-count.self (sym (ap (λ u. u.phase) v) ∙ fresh)
    (as_answers c.args.self.now _ _ c.args.answer _ v
    (starts_loaded _ _ path c.args.answer _ fresh keeps.1 keeps.0 c.in-Ok.ensures.loaded (search rules) (search rules) (search rules) (search rules) (search rules) (search rules)))
