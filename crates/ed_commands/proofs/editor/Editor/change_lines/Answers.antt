-- The text's lines, those of its block, are new ones, and there are some.
use Rattle.std.proofs.Common.{◌≡◌, ◌+◌, ◌-◌, ◌∙◌, List, ℕ, ap, sym, subst, length, map}
use Rattle.std.specs.Prelude.{OnOk}
use Rattle.ed_syntax.specs.meaning.Effects as effect
use Rattle.ed_syntax.specs.meaning.Effects.{altered}
use Rattle.ed_base.specs.Lines.{lines_of}
use Rattle.ed_base.specs.Buffer.{Line, plain_line}
use Rattle.ed_base.specs.Parts.{exchanged}
use Rattle.ed_commands.specs.Editors.{left_by, span_value}
use Rattle.ed_commands.proofs.Changes.{made-new, changed-some}
use Rattle.ed_commands.proofs.editor.Editor.change_lines.Goals as goal

made-of : (made : List Line) (file held block : List ℕ) (text : List (List ℕ)) → made ≡ map plain_line (lines_of file) → file ≡ held → held ≡ block → lines_of block ≡ text → made ≡ map plain_line text
made-of made file held block text is taken same read = is ∙ ap (map plain_line) (ap lines_of (taken ∙ same) ∙ read)

pub replace-requires-clause-new : goal.replace-requires-clause-new
replace-requires-clause-new g c =
    let block = c.in-Some.block.now.value in
    let held = c.in_ok-clone.field-0.value in
    let same : held ≡ block = c.in_ok-clone.ensures.cases in
    made-new c.in_ok-lines.lines.items c.args.text.now
    (made-of c.in_ok-lines.lines.items c.shared-file.result held block c.args.text.now c.in_ok-lines.ensures.value c.shared-file.ensures.value same c.in-Some.ensures.read_back)

pub returns-clause-exact : goal.returns-clause-exact
returns-clause-exact g c =
    let before = c.args.self.now.state in
    let from = c.args.span.first - 1 in
    let to = c.args.span.last in
    let text = c.args.text.now in
    let made = c.in_ok-lines.lines.items in
    let block = c.in-Some.block.now.value in
    let held = c.in_ok-clone.field-0.value in
    let same : held ≡ block = c.in_ok-clone.ensures.cases in
    let is = made-of made c.shared-file.result held block text c.in_ok-lines.ensures.value c.shared-file.ensures.value same c.in-Some.ensures.read_back in
    let changes : altered (exchanged from to made before.lines) (from + length made) before ≡ effect.change text (span_value c.args.span) before =
    ap (λ t. altered (exchanged from to t before.lines) (from + length t) before) is
    ∙ sym (changed-some text (span_value c.args.span) before c.in-Some.ensures.some) in
    subst (λ t. OnOk c.replace.result (c.replace.new.self.state ≡ left_by c.args.before before t)) changes c.replace.ensures.exact
