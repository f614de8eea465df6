-- The lines are exchanged, and what undo keeps brings the others back.
use Rattle.std.proofs.Common.{◌≡◌, ◌+◌, ◌≤◌, ◌∙◌, ap, arith, length, sym}
use Rattle.std.proofs.lemmas.List.{length-map}
use Rattle.ed_base.specs.Buffer.{Line, texts}
use Rattle.ed_base.specs.Parts.{exchanged}
use Rattle.ed_syntax.specs.meaning.Effects.{altered}
use Rattle.ed_commands.specs.Earlier.{earlier_after}
use Rattle.ed_commands.specs.Editors.{kept_at, left_by}
use Rattle.ed_commands.specs.declared.editor.past.Change.TheVariants as change
use Rattle.ed_commands.proofs.Blocks.{length-exchanged}
use Rattle.ed_commands.proofs.Changes.{changing, texts-back}
use Rattle.ed_commands.proofs.Held.{held}
use Rattle.ed_commands.proofs.editor.Editor.replace.Goals as goal

pub returns-clause-exact : goal.returns-clause-exact
returns-clause-exact g c =
    let e = c.self.inside in
    let lines = g.S.LineStore.lines e.store in
    let s = held lines e.current e.pattern e.replacement e.name e.changed e.past in
    let begun = c.begin.ensures.kept ∙ ap (earlier_after c.args.before.listed (kept_at c.args.before.current s)) (c.reserve.ensures.unchanged (texts lines)) in
    let is : s ≡ c.args.self.now.state = ap (λ v. v.state) c.self.view_is in
    let from = c.args.from in
    let to = c.args.to in
    let new = c.args.lines.items in
    let entered = c.len-entered.result in
    let removed = c.in_ok-removed.removed in
    let after = g.S.LineStore.lines c.exchange.new.store in
    let within : to ≤ length lines = omega (arith, c.requires.last, ap (λ t. length t.lines) is) in
    let counted : length new ≡ entered = omega (arith, c.args.lines.ok.0, c.len-entered.ensures) in
    let stands : from ≤ length (texts after) =
    omega (arith, length-map after (λ (l : Line). l.bytes), ap length c.in_ok-removed.ensures.put, length-exchanged from to new lines c.requires.order within) in
    changing s c.begin.new.self c.add.new.self c.args.before (change.Replaced from entered removed) _ (from + length new) after (exchanged from to new lines)
    (texts-back from to entered removed new after lines c.requires.order within counted c.in_ok-removed.ensures.taken c.in_ok-removed.ensures.put) c.in_ok-removed.ensures.put
    (omega (arith, ap length c.in_ok-removed.ensures.put, length-exchanged from to new lines c.requires.order within, c.len.ensures.value, c.len-2.ensures.value))
    begun (c.add.ensures.kept (texts after) stands)
    ∙ ap (λ t. left_by c.args.before t (altered (exchanged from to new t.lines) (from + length new) t)) is
