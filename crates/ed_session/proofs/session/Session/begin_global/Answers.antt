use Rattle.std.proofs.Common.{◌≡◌, ◌≢◌, ◌≤◌, ◌+◌, ◌∙◌, ap, refl, subst, None, Err, false}
use Rattle.std.proofs.lemmas.Bool.{false_from_ne_true}
use Rattle.ed_base.specs.declared.fault.Fault.TheVariants.{Memory}
use Rattle.ed_syntax.specs.meaning.Applied.{command}
use Rattle.ed_syntax.specs.PublicTypes.{command_value}
use Rattle.ed_session.specs.Insides.{holding}
use Rattle.ed_session.specs.Sessions.{is_over}
use Rattle.ed_session.proofs.Advancing.{advances_by, hands_out_report, as_goes, as_hands_out}
use Rattle.ed_session.proofs.RunningLists.{beginning, begun_is, begins_list, lists_failing}
use Rattle.ed_session.proofs.Working.{both_work, opened_less, works_less}
use Rattle.ed_session.proofs.session.Session.begin_global.Goals as goal

pub returns-in-Ok-clause-given : goal.returns-in-Ok-clause-given
returns-in-Ok-clause-given g c =
    let i = c.self.inside in
    let x = command_value c.next.result.now in
    let b = beginning _ _ x c.self.view_is c.requires.prompted c.requires.outside c.requires.handed_out c.requires.global
    c.next.ensures.value in
    let live : is_over i.phase ≡ false = ap is_over b.at in
    let untold = false_from_ne_true i.told (λ h. let n = (c.self.invariant.ended h).0 in cc) in
    let begun = begun_is _ i.editor.state _ c.in-Ok.begun (c.in-Ok.ensures.exact (c.self.invariant.works live)) in
    let opens = c.open.ensures.value in
    rw c.output.ensures.value (advances_by c.args.self.now _ c.in-Ok.begun.output
    (as_goes c.args.self.now _ c.in-Ok.begun.output _ b.same
    (begins_list _ _ x b.outside b.first b.is b.at b.none begun.0 c.in-Ok.begun.lines c.in-Ok.begun.output begun.1 begun.4 begun.3
    refl (ap (λ a. a.running_list) opens) (ap (λ a. a.steps) opens) refl (ap (λ s. holding i.silent s i.modes i.prompt) begun.2) b.none))
    refl refl b.none untold)

pub returns-in-Err-clause-given : goal.returns-in-Err-clause-given
returns-in-Err-clause-given g c =
    let i = c.self.inside in
    let x = command_value c.next.result.now in
    let b = beginning _ _ x c.self.view_is c.requires.prompted c.requires.outside c.requires.handed_out c.requires.global
    c.next.ensures.value in
    let live : is_over i.phase ≡ false = ap is_over b.at in
    let untold = false_from_ne_true i.told (λ h. let n = (c.self.invariant.ended h).0 in cc) in
    let fails : c.in-Err.fault ≢ Memory → command i.editor.state x None ≡ Err c.in-Err.fault =
    c.in-Err.ensures.exact (c.self.invariant.works live) in
    as_hands_out c.args.self.now _ _ _ b.same
    (hands_out_report _ _ c.in-Err.fault _ live b.none c.end-report.ensures.ended
    (λ h. lists_failing _ x b.outside b.first b.is b.at b.none c.in-Err.fault (fails h)) refl b.none untold)

pub returns-in-Ok-clause-work : goal.returns-in-Ok-clause-work
returns-in-Ok-clause-work g c =
    let b = beginning _ _ (command_value c.next.result.now) c.self.view_is c.requires.prompted c.requires.outside c.requires.handed_out
    c.requires.global c.next.ensures.value in
    let opens = c.open.ensures.value in
    works_less c.args.self.now _ _ _ (ap is_over c.requires.prompted) (ap (λ u. u.pending) b.same ∙ c.requires.handed_out)
    (subst (λ u. both_work c.open.new.self.running_list c.open.new.self.steps + 1 ≤ both_work u.running_list u.steps) b.same
    (rw (opens, b.outside) (opened_less c.self.inside.agenda.steps _ c.in-Ok.begun.lines b.first c.open.ensures.counted)))
