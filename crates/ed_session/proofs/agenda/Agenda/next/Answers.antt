use Rattle.std.proofs.Common.{◌≡◌, ap, ◌∙◌, drop, sym, map}
use Rattle.ed_syntax.specs.PublicTypes.{command_value, steps_value}
use Rattle.ed_session.specs.Agendas.{first_list, list_at, next_command}
use Rattle.ed_session.proofs.AgendaLemmas.{in_list, list_next, script_next, some_in_list}
use Rattle.ed_session.proofs.agenda.Agenda.next.Goals as goal

pub returns-in-Some : goal.returns-in-Some
returns-in-Some c =
    let i = c.self.inside in
    let t = c.in-Some.countdown in
    let steps = steps_value (drop i.next i.commands.items) in
    let l = in_list i.commands.items _ t steps _ c.in-Some.is c.self.invariant.1 c.self.view_is in
    let some = some_in_list i.commands.items t steps _ l c.requires.there in
    let list : map command_value c.list-list.result.now ≡ list_at i.commands.items t.global
    = c.list-list.ensures.value ∙ ap first_list (sym (script_next i.commands.items t.global c.index.result.now l.0.0 c.index.ensures)) in
    record { value = ap (λ u. next_command u.running_list u.steps) (sym l.1) ∙ list_next c.list-list.result.now (list_at i.commands.items t.global) t.left c.index-list-list.result list some l.0.1 c.index-list-list.is }
