-- The lines came in, and undo takes them out.
use Rattle.std.proofs.Common.{◌≡◌, ◌≤◌, ◌+◌, ◌-◌, ◌∙◌, map, sym, ap, arith, length}
use Rattle.std.proofs.lemmas.List.{length-map}
use Rattle.ed_base.specs.Lines.{lines_of}
use Rattle.ed_base.specs.Buffer.{Line, plain_line, texts}
use Rattle.ed_base.specs.Parts.{inserted}
use Rattle.ed_syntax.specs.meaning.Effects.{altered}
use Rattle.ed_commands.specs.Earlier.{earlier_after}
use Rattle.ed_commands.specs.Editors.{kept_at, left_by}
use Rattle.ed_commands.specs.declared.editor.past.Change.TheVariants as change
use Rattle.ed_commands.proofs.Blocks.{length-exchanged}
use Rattle.ed_commands.proofs.Changes.{changing, entered-text, some-lines, texts-entered}
use Rattle.ed_commands.proofs.Held.{held}
use Rattle.ed_commands.proofs.editor.Editor.enter.Goals as goal

pub returns-clause-exact : goal.returns-clause-exact
returns-clause-exact g c =
    let e = c.self.inside in
    let lines = g.S.LineStore.lines e.store in
    let s = held lines e.current e.pattern e.replacement e.name e.changed e.past in
    let old = c.args.self.now.state in
    let begun = c.begin.ensures.kept ∙ ap (earlier_after c.args.before.listed (kept_at c.args.before.current s)) (c.reserve.ensures.unchanged (texts lines)) in
    let is : s ≡ old = ap (λ v. v.state) c.self.view_is in
    let place = c.args.place in
    let text = lines_of c.args.block.value in
    let new = map plain_line text in
    let after = g.S.LineStore.lines c.put_file.new.store in
    let entered = c.len-now.result - c.len-count.result in
    let within : place ≤ length lines = omega (arith, c.requires.place, ap (λ t. length t.lines) is) in
    let put : after ≡ inserted place new lines =
    c.in_ok-put_file.ensures.put ∙ ap (λ b. inserted place (map plain_line (lines_of b)) lines) c.shared-file.ensures.value in
    let longer = length-exchanged place place new lines (omega arith) within in
    let many : length new ≡ entered = omega (arith, ap length put, longer, c.len-count.ensures.value, c.len-now.ensures.value) in
    let stands : place ≤ length (texts after) = omega (arith, length-map after (λ (l : Line). l.bytes), ap length put, longer, within) in
    changing s c.begin.new.self c.add.new.self c.args.before (change.Replaced place entered c.new.result) _ (place + length text) after (inserted place new lines)
    (texts-entered place entered c.new.result new after lines within many c.new.ensures.value put) put
    (omega (arith, ap length put, longer, length-map text plain_line, c.len-count.ensures.value, c.len-now.ensures.value))
    begun (c.add.ensures.kept (texts after) stands)
    ∙ ap (λ t. left_by c.args.before t (altered (inserted place new t.lines) (place + length text) t)) is
    ∙ ap (left_by c.args.before old)
    (sym (entered-text place text old (some-lines c.args.block.value (λ none. cc (c.is_empty.ensures.value.1 (c.deref.ensures ∙ none), c.if-is_empty.false)))))
