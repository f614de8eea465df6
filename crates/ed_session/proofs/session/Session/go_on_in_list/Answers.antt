use Rattle.std.proofs.Common.{◌≡◌, ◌∙◌, sym, subst, true}
use Rattle.std.specs.Prelude.{IsSome, is_some}
use Rattle.ed_syntax.specs.Commands.{Command}
use Rattle.ed_session.specs.Agendas.{next_command}
use Rattle.ed_session.specs.Insides.{IsNext}
use Rattle.ed_session.proofs.RunningLists.{next_inside, unprompted_inside}
use Rattle.ed_session.proofs.session.Session.go_on_in_list.Goals as goal

pub command-requires-clause-comes : goal.command-requires-clause-comes
command-requires-clause-comes g c = unprompted_inside _ _ c.requires.inside c.requires.running c.requires.started

pub command-requires-clause-next : goal.command-requires-clause-next
command-requires-clause-next g c =
    let i = c.self.inside in
    let v = c.self.view_is in
    let there : is_some (next_command i.agenda.running_list i.agenda.steps) ≡ true = sym c.has_next.ensures.value ∙ c.if-has_next.true in
    subst (λ u. (x : Command) × IsNext u.running_list u.steps x) v (next_inside i.agenda.running_list i.agenda.steps (subst (λ u. IsSome u.running_list) (sym v) c.requires.inside) there)
