use Rattle.std.proofs.Common.{◌≡◌, ◌≢◌, ◌≤◌, ◌+◌, ◌∙◌, ◌++◌, ap, refl, sym, subst, inl, Some, Err}
use Rattle.ed_base.specs.declared.fault.Fault.TheVariants.{Memory}
use Rattle.ed_syntax.specs.meaning.Applied.{command}
use Rattle.ed_syntax.specs.PublicTypes.{command_value}
use Rattle.ed_session.specs.Insides.{EndsBy, counted}
use Rattle.ed_session.specs.Sessions.{is_over}
use Rattle.ed_session.proofs.Commanding.{awaiting, awaits_something, takes_answer, fails_answer, done_is, turned_present, asks_more}
use Rattle.ed_session.proofs.Working.{both_work, passed_less, works_or_writes}
use Rattle.ed_session.proofs.session.Session.answer.Goals as goal
use Rattle.ed_session.proofs.session.Session.answer.Goals.{in-Ok-Done+in-Err-with_count, in-Ok-Wants+in-Read-1, in-Ok-Wants+in-Write+in-None-1, in-Ok-Wants+in-Write+in-Some-1, in-Err}

-- it was taken
pub returns-in-Ok-clause-given : goal.returns-in-Ok-clause-given
returns-in-Ok-clause-given g c =
    let i = c.self.inside in
    let x = command_value c.next-command.result.now in
    let w = awaiting _ _ _ _ c.self.view_is c.requires.waiting c.self.invariant.keeps c.next-command.ensures.value in
    let exact = rw c.in-Ok-Done.field-0-is at c.in-Ok-Done.ensures.exact in
    let done = done_is _ i.editor.state _ c.in-Ok-Done.output (exact (c.self.invariant.works (ap is_over w.at))) in
    let turned = c.after-self-inside.ensures in
    let passed = c.pass.ensures.value in
    takes_answer w c.args.answer _ done.0 c.in-Ok-Done.output done.1 done.3 refl (ap (λ a. a.running_list) passed) (ap (λ a. a.steps) passed) refl
    (turned_present x.verb i.silent i.editor.state done.0.state c.apply.new.self.state i.modes c.after-self-inside.result i.prompt done.2 turned.prompting turned.help)
    (c.in-Ok.ensures.value ∙ ap (λ n. c.in-Ok-Done.output ++ counted i.silent n) c.length_counted-length.ensures.value)

-- it ended the run: without memory for its count, because it doesn't fit its request, or by the command's fault
pub returns-clause-given : goal.returns-clause-given
returns-clause-given g c =
    let w = awaiting _ _ _ _ c.self.view_is c.requires.waiting c.self.invariant.keeps c.next-command.ensures.value in
    let works = c.self.invariant.works (ap is_over w.at) in
    let help : c.match-apply.self-inside.modes.help ≡ c.self.inside.modes.help = elim c.match-apply.branch [
      | in-Ok-Done+in-Err-with_count b ↦ ap (λ s. s.modes.help) b.self-inside-is
      | in-Ok-Wants+in-Read-1 b ↦ ap (λ s. s.modes.help) b.self-inside-is
      | in-Ok-Wants+in-Write+in-None-1 b ↦ ap (λ s. s.modes.help) b.self-inside-is
      | in-Ok-Wants+in-Write+in-Some-1 b ↦ ap (λ s. s.modes.help) b.self-inside-is
      | in-Err b ↦ ap (λ s. s.modes.help) b.self-inside-is
    ] in
    fails_answer w c.args.answer _ c.match-apply.fault _ (subst (λ b. EndsBy b c.match-apply.fault c.end.new.phase c.end.result) help c.end.ensures.ended)
    (λ h. elim c.match-apply.branch [
      | in-Ok-Done+in-Err-with_count b ↦ absurd (h b.fault-is)
      | in-Ok-Wants+in-Read-1 b ↦ let exact = rw b.in-Ok-Wants.field-0-is at b.in-Ok-Wants.ensures.exact in asks_more _ _ _ _ _ (exact works) b.fault-is
      | in-Ok-Wants+in-Write+in-None-1 b ↦ let exact = rw b.in-Ok-Wants.field-0-is at b.in-Ok-Wants.ensures.exact in asks_more _ _ _ _ _ (exact works) b.fault-is
      | in-Ok-Wants+in-Write+in-Some-1 b ↦ let exact = rw b.in-Ok-Wants.field-0-is at b.in-Ok-Wants.ensures.exact in asks_more _ _ _ _ _ (exact works) b.fault-is
      | in-Err b ↦
          let is : b.in-Err.fault ≢ Memory → command c.self.inside.editor.state (command_value c.next-command.result.now) (Some c.args.answer) ≡ Err b.in-Err.fault
          = b.in-Err.ensures.exact works in
          inl (is (λ e. h (b.fault-is ∙ e)) ∙ ap Err (sym b.fault-is))
    ]) help refl

pub returns-in-Ok-clause-awaited : goal.returns-in-Ok-clause-awaited
returns-in-Ok-clause-awaited g c = awaits_something (awaiting _ _ _ _ c.self.view_is c.requires.waiting c.self.invariant.keeps c.next-command.ensures.value)

pub returns-clause-awaited : goal.returns-clause-awaited
returns-clause-awaited g c = awaits_something (awaiting _ _ _ _ c.self.view_is c.requires.waiting c.self.invariant.keeps c.next-command.ensures.value)

pub returns-in-Ok-clause-work : goal.returns-in-Ok-clause-work
returns-in-Ok-clause-work g c =
    let i = c.self.inside in
    let v = c.self.view_is in
    let live = ap is_over c.requires.waiting in
    let passed = c.pass.ensures.value in
    works_or_writes c.args.self.now _ _ _ live
    (subst (λ u. both_work c.pass.new.self.running_list c.pass.new.self.steps + 1 ≤ both_work u.running_list u.steps) v
    (rw passed (passed_less i.agenda.running_list i.agenda.steps _ c.next-command.ensures.value)))
