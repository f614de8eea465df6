-- The copies came in, and undo takes them out.
use Rattle.std.proofs.Common.{◌≡◌, ◌≤◌, ◌+◌, ◌-◌, ◌∙◌, map, sym, ap, arith, length}
use Rattle.std.proofs.lemmas.List.{length-map}
use Rattle.ed_base.specs.Buffer.{Line, plain_line, texts}
use Rattle.ed_base.specs.Parts.{block, inserted}
use Rattle.ed_syntax.specs.meaning.Effects.{altered}
use Rattle.ed_commands.specs.Earlier.{earlier_after}
use Rattle.ed_commands.specs.Editors.{kept_at, left_by}
use Rattle.ed_commands.specs.declared.editor.past.Change.TheVariants as change
use Rattle.ed_commands.proofs.Blocks.{length-block, length-exchanged}
use Rattle.ed_commands.proofs.Changes.{changing, copied-some, texts-entered}
use Rattle.ed_commands.proofs.Held.{held}
use Rattle.ed_commands.proofs.editor.Editor.copy.Goals as goal

pub returns-clause-exact : goal.returns-clause-exact
returns-clause-exact g c =
    let e = c.self.inside in
    let lines = g.S.LineStore.lines e.store in
    let s = held lines e.current e.pattern e.replacement e.name e.changed e.past in
    let old = c.args.self.now.state in
    let begun = c.begin.ensures.kept ∙ ap (earlier_after c.args.before.listed (kept_at c.args.before.current s)) (c.reserve.ensures.unchanged (texts lines)) in
    let is : s ≡ old = ap (λ v. v.state) c.self.view_is in
    let a = c.args.span.first in
    let from = a - 1 in
    let to = c.args.span.last in
    let target = c.args.target in
    let entered = to - from in
    let copies = map plain_line (texts (block from to lines)) in
    let after = g.S.LineStore.lines c.copy_block.new.store in
    let within : to ≤ length lines = omega (arith, c.requires.last, ap (λ t. length t.lines) is) in
    let inside : target ≤ length lines = omega (arith, c.requires.target, ap (λ t. length t.lines) is) in
    let many : length copies ≡ entered =
    length-map (texts (block from to lines)) plain_line ∙ length-map (block from to lines) (λ line. line.bytes) ∙ length-block from to lines within in
    let stands : target ≤ length (texts after) =
    omega (arith, length-map after (λ (l : Line). l.bytes), ap length c.in_ok-copy_block.ensures.copied, length-exchanged target target copies lines (omega arith) inside) in
    changing s c.begin.new.self c.add.new.self c.args.before (change.Replaced target entered c.new.result) _ (target + entered) after (inserted target copies lines)
    (texts-entered target entered c.new.result copies after lines inside many c.new.ensures.value c.in_ok-copy_block.ensures.copied) c.in_ok-copy_block.ensures.copied
    (omega (arith, ap length c.in_ok-copy_block.ensures.copied, length-exchanged target target copies lines (omega arith) inside, many, c.len.ensures.value, c.len-2.ensures.value))
    begun (c.add.ensures.kept (texts after) stands)
    ∙ ap (λ t. left_by c.args.before t (altered (inserted target (map plain_line (texts (block from to t.lines))) t.lines) (target + entered) t)) is
    ∙ ap (left_by c.args.before old) (sym (copied-some a to target old c.requires.first c.requires.order c.requires.last))
