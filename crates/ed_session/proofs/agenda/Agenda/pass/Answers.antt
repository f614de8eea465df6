use Rattle.std.proofs.Common.{◌≡◌, ◌+◌, ap, ◌∙◌, drop, subst, None}
use Rattle.ed_syntax.specs.PublicTypes.{steps_value}
use Rattle.ed_session.specs.Agendas.{list_at, passed, running_of}
use Rattle.ed_session.proofs.AgendaLemmas.{agenda_of, in_list, is_passed, is_passed_in_list, some_in_list}
use Rattle.ed_session.proofs.agenda.Agenda.pass.Goals as goal

pub returns-in-Some : goal.returns-in-Some
returns-in-Some c =
    let i = c.self.inside in
    let t = c.in-Some.countdown in
    let steps = steps_value (drop i.next i.commands.items) in
    let l = in_list i.commands.items _ t steps _ c.in-Some.is c.self.invariant.1 c.self.view_is in
    let some = some_in_list i.commands.items t steps _ l c.requires.there in
    record { value = is_passed_in_list (list_at i.commands.items t.global) t.left t.lines steps some l.0.1 ∙ ap passed l.1 }

pub returns-in-None : goal.returns-in-None
returns-in-None c =
    let i = c.self.inside in
    let steps = steps_value (drop i.next i.commands.items) in
    let is : agenda_of None steps ≡ c.args.self.now = subst (λ o. agenda_of (running_of i.commands.items o) steps ≡ c.args.self.now) c.in-None.is c.self.view_is in
    record { value = ap (λ o. agenda_of (running_of i.commands.items o) (steps_value (drop (i.next + 1) i.commands.items))) c.in-None.is ∙ is_passed i.commands.items i.next ∙ ap passed is }
