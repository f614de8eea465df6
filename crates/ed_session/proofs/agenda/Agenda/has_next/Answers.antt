use Rattle.std.proofs.Common.{◌≡◌, ap, ◌∙◌, drop, length, rules, nat_lt, subst, None}
use Rattle.std.specs.Prelude.{is_some}
use Rattle.ed_syntax.specs.PublicTypes.{steps_value}
use Rattle.ed_session.specs.Agendas.{list_at, next_command, running_of}
use Rattle.ed_session.proofs.AgendaLemmas.{agenda_of, in_list, list_has, script_has}
use Rattle.ed_session.proofs.agenda.Agenda.has_next.Goals as goal

pub returns-in-Some : goal.returns-in-Some
returns-in-Some c =
    let i = c.self.inside in
    let t = c.in-Some.countdown in
    let steps = steps_value (drop i.next i.commands.items) in
    let l = in_list i.commands.items _ t steps _ c.in-Some.is c.self.invariant.1 c.self.view_is in
    record { value = list_has (list_at i.commands.items t.global) t.left l.0.1 ∙ ap (λ u. is_some (next_command u.running_list u.steps)) l.1 }

pub returns-in-None : goal.returns-in-None
returns-in-None c =
    let i = c.self.inside in
    let steps = steps_value (drop i.next i.commands.items) in
    let is : agenda_of None steps ≡ c.args.self.now = subst (λ o. agenda_of (running_of i.commands.items o) steps ≡ c.args.self.now) c.in-None.is c.self.view_is in
    let count : c.len.result ≡ length i.commands.items = search rules in
    record { value = ap (nat_lt i.next) count ∙ script_has i.commands.items i.next ∙ ap (λ u. is_some (next_command u.running_list u.steps)) is }
