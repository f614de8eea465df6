use Rattle.std.proofs.Common.{ap, ◌∙◌}
use Rattle.ed_session.specs.Agendas.{opened_for, running_of}
use Rattle.ed_session.proofs.AgendaLemmas.{is_opened}
use Rattle.ed_session.proofs.agenda.Agenda.open.Goals as goal

pub returns-clause-value : goal.returns-clause-value
returns-clause-value c =
    let i = c.self.inside in
    is_opened i.commands.items i.next c.args.lines (running_of i.commands.items i.countdown) ∙ ap (opened_for c.args.lines) c.self.view_is
