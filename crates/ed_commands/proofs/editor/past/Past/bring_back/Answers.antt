-- Nothing is to be undone, or nothing to be changed, or the buffer that is held comes back.
use Rattle.std.proofs.Common.{◌≡◌, ◌-◌, ◌∙◌, None, Some, refl, sym, subst, ap, arith}
use Rattle.std.specs.Prelude.{vec_len, vec_capacity}
use Rattle.ed_base.specs.Buffer.{texts}
use Rattle.ed_syntax.specs.meaning.States.{Same}
use Rattle.line_store.specs.Marks.{lettered}
use Rattle.ed_commands.specs.Earlier.{PastValue, Restores, earlier_of, undone_past}
use Rattle.ed_commands.proofs.Undoing.{restored}
use Rattle.ed_commands.proofs.editor.past.Past.bring_back.Goals as goal

pub returns-in-Nothing-clause-fault : goal.returns-in-Nothing-clause-fault
unfolding earlier_of
returns-in-Nothing-clause-fault g c = λ other.
    let e = c.self.inside in
    let now = texts (g.S.LineStore.lines c.args.store.now) in
    (refl, ap (λ p. (earlier_of p now).past) (sym c.self.view_is) ∙ ap (λ u. undone_past u e.changes.items now) c.in-Nothing.is)

pub returns-in-Same-clause-brought : goal.returns-in-Same-clause-brought
unfolding earlier_of
returns-in-Same-clause-brought g c =
    let e = c.self.inside in
    let lines = g.S.LineStore.lines c.args.store.now in
    let before = earlier_of c.args.self.now (texts lines) in
    let same : before.past ≡ Same = ap (λ p. (earlier_of p (texts lines)).past) (sym c.self.view_is) ∙ ap (λ u. undone_past u e.changes.items (texts lines)) c.in-Same.is in
    subst (λ p. Restores p c.args.current lines lines before before None) (sym same) (refl, refl)

pub returns-clause-brought : goal.returns-clause-brought
returns-clause-brought g c =
    let e = c.self.inside in
    let lines = g.S.LineStore.lines in
    let old = lines c.args.store.now in
    let new = lines c.set_marks.new.self in
    let changes = c.rewind.new.changes in
    let p : PastValue = record { undone = e.undone; global = e.global; changes = e.changes.items; room = vec_capacity e.changes - vec_len e.changes } in
    subst (λ p. Restores (earlier_of p (texts old)).past c.args.current old new (earlier_of p (texts old)) (earlier_of c.forget.new.self (texts new)) (Some c.min-line.result)) c.self.view_is
    (restored p c.forget.new.self c.in-Was.held c.args.current c.in_ok-since.since c.min-line.result (vec_capacity changes - vec_len changes) c.of-marks.result changes.items
    old (lines c.rewind.new.store) new
    c.in-Was.is c.self.invariant.1 c.in_ok-since.ensures.earlier c.in_ok-since.ensures.texts c.in_ok-since.ensures.again
    c.of-marks.ensures.own (c.set_marks.ensures.marked ∙ ap (lettered c.in-Was.held.marks 0) c.take_flags.ensures.taken) (omega (arith, c.len.ensures.value, c.min-line.ensures))
    c.forget.ensures.kept)
