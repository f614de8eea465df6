use Rattle.std.proofs.Common.{ap, ◌∙◌, drop, sym}
use Rattle.ed_syntax.specs.PublicTypes.{steps_value}
use Rattle.ed_session.specs.Agendas.{list_at}
use Rattle.ed_session.specs.Sessions.{listed_left}
use Rattle.ed_session.proofs.AgendaLemmas.{in_list, list_length}
use Rattle.ed_session.proofs.agenda.Agenda.left_in_list.Goals as goal

pub returns-in-Some : goal.returns-in-Some
returns-in-Some c =
    let i = c.self.inside in
    let t = c.in-Some.countdown in
    let steps = steps_value (drop i.next i.commands.items) in
    let l = in_list i.commands.items _ t steps _ c.in-Some.is c.self.invariant.1 c.self.view_is in
    record { value = sym (list_length (list_at i.commands.items t.global) t.left l.0.1) ∙ ap (λ u. listed_left u.running_list) l.1 }
