use Rattle.std.proofs.Common.{◌≡◌, ◌≤◌, ◌+◌, ◌∙◌, ap, sym, refl, subst, inr}
use Rattle.std.specs.Prelude.{is_some}
use Rattle.std.proofs.lemmas.Bool.{false_from_ne_true}
use Rattle.ed_syntax.specs.meaning.Globals.{next_taken}
use Rattle.ed_session.specs.Sessions.{is_waiting}
use Rattle.ed_session.proofs.Advancing.{as_goes}
use Rattle.ed_session.proofs.RunningLists.{listing, goes_silently, line_taken, lines_done, taken_is, none_is, taken_again}
use Rattle.ed_session.proofs.Working.{both_work, repeated_less, works_same}
use Rattle.ed_session.proofs.session.Session.next_line.Goals as goal

pub end_global-requires-clause-over : goal.end_global-requires-clause-over
end_global-requires-clause-over g c =
    let i = c.self.inside in
    let l = listing _ _ c.self.view_is c.requires.more c.requires.none_left c.requires.running c.requires.started in
    let value : c.next_global.result ≡ is_some (next_taken i.editor.state) = c.next_global.ensures.value in
    let taken = none_is (next_taken i.editor.state) i.editor.state c.next_global.new.self.state (sym value ∙ c.if-next_global.false)
    c.if-next_global.ensures.taken in
    lines_done _ l.open_now l.inside l.running l.started l.none (inr (ap next_taken taken.1 ∙ taken.0))

pub returns-then-next_global-clause-given : goal.returns-then-next_global-clause-given
returns-then-next_global-clause-given g c =
    let i = c.self.inside in
    let l = listing _ _ c.self.view_is c.requires.more c.requires.none_left c.requires.running c.requires.started in
    let untold = false_from_ne_true i.told (λ h. let n = (c.self.invariant.ended h).0 in cc) in
    let value : c.next_global.result ≡ is_some (next_taken i.editor.state) = c.next_global.ensures.value in
    let taken = taken_is (next_taken i.editor.state) i.editor.state c.next_global.new.self.state (sym value ∙ c.if-next_global.true)
    c.if-next_global.ensures.taken in
    let again = c.repeat.ensures.value in
    record {
      same = as_goes c.args.self.now _ _ _ l.same (goes_silently _ _ l.running
          (line_taken _ l.open_now l.inside l.running l.started l.none _ c.next_global.new.self.state l.more taken refl
          (ap (λ a. a.running_list) again ∙ taken_again _ l.open_now l.inside) (ap (λ a. a.steps) again) refl refl) refl);
      idle = ap (λ u. is_waiting u.phase) l.same ∙ c.requires.idle;
      started = l.started;
      handed_out = ap (λ u. u.pending) l.same ∙ c.requires.handed_out;
      untold = untold;
    }

pub returns-then-next_global-clause-work : goal.returns-then-next_global-clause-work
returns-then-next_global-clause-work g c =
    let l = listing _ _ c.self.view_is c.requires.more c.requires.none_left c.requires.running c.requires.started in
    let again = c.repeat.ensures.value in
    works_same c.args.self.now _ _ _ _ (ap (λ u. u.phase) l.same) (ap (λ u. u.pending) l.same)
    (subst (λ u. both_work c.repeat.new.self.running_list c.repeat.new.self.steps + 1 ≤ both_work u.running_list u.steps) l.same
    (rw (again, l.inside) (repeated_less l.open_now c.self.inside.agenda.steps l.more)))
