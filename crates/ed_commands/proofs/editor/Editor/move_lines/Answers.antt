-- The lines are carried, and what undo keeps carries them back.
use Rattle.std.proofs.Common.{◌≡◌, ◌≤◌, ◌+◌, ◌-◌, ◌∙◌, true, refl, sym, ap, subst, arith, length}
use Rattle.std.specs.Prelude.{IsOkAnd}
use Rattle.ed_base.specs.Buffer.{texts}
use Rattle.ed_base.specs.Parts.{carried}
use Rattle.ed_syntax.specs.meaning.Effects.{altered}
use Rattle.ed_commands.specs.Earlier.{earlier_after, earlier_of}
use Rattle.ed_commands.specs.Editors.{kept_at, left_by}
use Rattle.ed_commands.specs.declared.editor.past.Change.TheVariants as change
use Rattle.ed_commands.proofs.Blocks.{carried-back}
use Rattle.ed_commands.proofs.Changes.{changing, moved-back, moved-to}
use Rattle.ed_commands.proofs.Held.{held}
use Rattle.ed_commands.proofs.editor.Editor.move_lines.Goals as goal

pub returns-clause-exact : goal.returns-clause-exact
returns-clause-exact g c =
    let e = c.self.inside in
    let lines = g.S.LineStore.lines e.store in
    let s = held lines e.current e.pattern e.replacement e.name e.changed e.past in
    let old = c.args.self.now.state in
    let begun = c.begin_with.ensures.kept (texts lines) ∙ c.marks-marks.ensures.kept (earlier_of c.reserve.new.self (texts lines))
    ∙ ap (earlier_after c.args.before.listed (kept_at c.args.before.current s)) (c.reserve.ensures.unchanged (texts lines)) in
    let is : s ≡ old = ap (λ v. v.state) c.self.view_is in
    let a = c.args.span.first in
    let from = a - 1 in
    let to = c.args.span.last in
    let place = c.in_ok-place.place in
    let after = g.S.LineStore.lines c.carry.new.store in
    let within : to ≤ length lines = omega (arith, c.requires.last, ap (λ t. length t.lines) is) in
    let room : place + (to - from) ≤ length lines =
    omega (arith, c.in_ok-place.ensures.within, c.requires.last, c.requires.target, ap (λ t. length t.lines) is) in
    let back : carried place (place + (to - from)) from after ≡ lines =
    rw c.in_ok-place.ensures.carried (carried-back from to place lines (omega arith) within room) in
    let now = held after (place + (to - from)) e.pattern e.replacement e.name true c.add.new.self in
    subst (λ r. IsOkAnd r (λ outcome. now ≡ left_by c.args.before old outcome))
    (sym (moved-to a to c.args.target place old c.requires.first c.requires.order c.requires.last c.in_ok-place.ensures.place))
    (changing s c.begin_with.new.self c.add.new.self c.args.before (change.Moved from to place) (place + (to - from)) (place + (to - from)) after (carried from to place lines)
    (moved-back place (place + (to - from)) from after lines back) c.in_ok-place.ensures.carried refl begun (c.add.ensures.kept (texts after) tt)
    ∙ ap (λ t. left_by c.args.before t (altered (carried from to place t.lines) (place + (to - from)) t)) is)
