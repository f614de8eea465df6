use Rattle.std.proofs.Common.{rules, ◌≡◌, ◌∙◌, ap, sym, Some}
use Rattle.ed_syntax.specs.PublicTypes.{command_value}
use Rattle.ed_syntax.specs.declared.verbs.Ends.TheVariants as ends
use Rattle.ed_session.proofs.Stepping.{next_quits, next_ends}
use Rattle.ed_session.proofs.session.Session.step_on.Goals as goal

pub returns-in-Some-AsScript-clause-given : goal.returns-in-Some-AsScript-clause-given
returns-in-Some-AsScript-clause-given g c =
    let is : c.takes-takes.result.ends ≡ Some ends.AsScript = search rules in
    c.quit.ensures.given (next_quits c.args.self.now _ (command_value c.next.result.now) c.self.view_is c.requires.prompted c.requires.outside c.next.ensures.value
    (sym (ap (λ t. t.ends) c.takes-takes.ensures.value) ∙ is))

pub returns-in-Some-Anyway-clause-given : goal.returns-in-Some-Anyway-clause-given
returns-in-Some-Anyway-clause-given g c =
    let is : c.takes-takes.result.ends ≡ Some ends.Anyway = search rules in
    c.leave.ensures.given (next_ends c.args.self.now _ (command_value c.next.result.now) c.self.view_is c.requires.prompted c.requires.outside c.next.ensures.value
    (sym (ap (λ t. t.ends) c.takes-takes.ensures.value) ∙ is))
