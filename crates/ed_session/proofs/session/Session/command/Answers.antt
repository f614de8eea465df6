use Rattle.std.proofs.Common.{◌≡◌, ◌≢◌, ◌≤◌, ◌+◌, ◌∙◌, ap, refl, subst, None, Err}
use Rattle.std.proofs.lemmas.Bool.{false_from_ne_true}
use Rattle.ed_base.specs.declared.fault.Fault.TheVariants.{Memory}
use Rattle.ed_syntax.specs.meaning.Applied.{command}
use Rattle.ed_syntax.specs.PublicTypes.{command_value}
use Rattle.ed_session.specs.Insides.{holding}
use Rattle.ed_session.proofs.Advancing.{advances_by, hands_out_report, as_goes, as_awaits, as_hands_out}
use Rattle.ed_session.proofs.Commanding.{coming, goes_running, passes_done, passes_asking, passes_failing, gives_request, done_is, wants_is, turned_present}
use Rattle.ed_session.proofs.Working.{both_work, passed_less, works_less}
use Rattle.ed_session.proofs.session.Session.command.Goals as goal

pub invariant_of-self-in-Ok-Wants : goal.invariant_of-self-in-Ok-Wants
invariant_of-self-in-Ok-Wants g c =
    let i = c.self.inside in
    let x = command_value c.next-command.result.now in
    let k = coming _ _ x c.self.view_is c.requires.comes c.requires.handed_out c.requires.next c.next-command.ensures.value in
    let live = goes_running i.phase i.agenda.running_list k.goes in
    let works = c.self.invariant.works live in
    let exact = rw c.in-Ok-Wants.field-0-is at c.in-Ok-Wants.ensures.exact in
    let asks = wants_is _ _ _ c.in-Ok-Wants.request (exact works) in
    record {
      works = λ h. rw works at c.in-Ok-Wants.ensures.failed;
      can_report = λ h. c.self.invariant.can_report live;
      keeps = (
        (
          x,
          rw asks.1
              (record {
                next = k.next;
                request = c.in-Ok-Wants.request;
                asks = asks.0;
                writes_it = c.bytes_of_write-self-inside.ensures.value;
              }),
        ),
        k.none,
      );
      ended = λ h. absurd (let n = (c.self.invariant.ended h).0 in cc);
    }

pub returns-in-Ok-Done-clause-given : goal.returns-in-Ok-Done-clause-given
returns-in-Ok-Done-clause-given g c =
    let i = c.self.inside in
    let x = command_value c.next-command.result.now in
    let k = coming _ _ x c.self.view_is c.requires.comes c.requires.handed_out c.requires.next c.next-command.ensures.value in
    let live = goes_running i.phase i.agenda.running_list k.goes in
    let untold = false_from_ne_true i.told (λ h. let n = (c.self.invariant.ended h).0 in cc) in
    let exact = rw c.in-Ok-Done.field-0-is at c.in-Ok-Done.ensures.exact in
    let done = done_is _ i.editor.state _ c.in-Ok-Done.written (exact (c.self.invariant.works live)) in
    let turned = c.after-self-inside.ensures in
    let passed = c.pass.ensures.value in
    rw c.output.ensures.value (advances_by c.args.self.now _ c.in-Ok-Done.written
    (as_goes c.args.self.now _ c.in-Ok-Done.written _ k.same
    (passes_done _ x k.goes k.next k.none _ done.0 c.in-Ok-Done.written done.1 done.3 refl (ap (λ a. a.running_list) passed)
    (ap (λ a. a.steps) passed) refl
    (turned_present x.verb i.silent i.editor.state done.0.state c.apply.new.self.state i.modes c.after-self-inside.result i.prompt done.2
    turned.prompting turned.help) k.none))
    refl refl k.none untold)

pub returns-in-Ok-Wants-clause-given : goal.returns-in-Ok-Wants-clause-given
returns-in-Ok-Wants-clause-given g c =
    let i = c.self.inside in
    let x = command_value c.next-command.result.now in
    let k = coming _ _ x c.self.view_is c.requires.comes c.requires.handed_out c.requires.next c.next-command.ensures.value in
    let live = goes_running i.phase i.agenda.running_list k.goes in
    let exact = rw c.in-Ok-Wants.field-0-is at c.in-Ok-Wants.ensures.exact in
    let asks = wants_is _ _ _ c.in-Ok-Wants.request (exact (c.self.invariant.works live)) in
    rw c.asking.ensures.value (gives_request c.args.self.now _ c.in-Ok-Wants.request
    (as_awaits c.args.self.now _ c.in-Ok-Wants.request _ k.same
    (passes_asking _ x k.goes k.next k.none _ c.in-Ok-Wants.request asks.0 refl refl refl refl
    (ap (λ s. holding i.silent s i.modes i.prompt) asks.1) k.none)))

pub returns-in-Err-clause-given : goal.returns-in-Err-clause-given
returns-in-Err-clause-given g c =
    let i = c.self.inside in
    let x = command_value c.next-command.result.now in
    let k = coming _ _ x c.self.view_is c.requires.comes c.requires.handed_out c.requires.next c.next-command.ensures.value in
    let live = goes_running i.phase i.agenda.running_list k.goes in
    let untold = false_from_ne_true i.told (λ h. let n = (c.self.invariant.ended h).0 in cc) in
    let is : c.in-Err.fault ≢ Memory → command i.editor.state x None ≡ Err c.in-Err.fault =
    c.in-Err.ensures.exact (c.self.invariant.works live) in
    as_hands_out c.args.self.now _ _ _ k.same
    (hands_out_report _ _ c.in-Err.fault _ live k.none c.end-report.ensures.ended
    (λ h. passes_failing _ x k.goes k.next k.none c.in-Err.fault (is h)) refl k.none untold)

pub returns-in-Ok-Done-clause-work : goal.returns-in-Ok-Done-clause-work
returns-in-Ok-Done-clause-work g c =
    let i = c.self.inside in
    let v = c.self.view_is in
    let live = goes_running c.args.self.now.phase c.args.self.now.running_list c.requires.comes in
    let passed = c.pass.ensures.value in
    works_less c.args.self.now _ _ _ live (ap (λ u. u.pending) v ∙ c.requires.handed_out)
    (subst (λ u. both_work c.pass.new.self.running_list c.pass.new.self.steps + 1 ≤ both_work u.running_list u.steps) v
    (rw passed (passed_less i.agenda.running_list i.agenda.steps _ c.next-command.ensures.value)))
