-- What undo would bring back stays.
use Rattle.std.proofs.Common.{◌≡◌, ◌-◌, refl, ap, ◌∙◌}
use Rattle.ed_base.specs.Buffer.{marked_at}
use Rattle.ed_syntax.specs.meaning.Ranges as ranges
use Rattle.ed_syntax.specs.meaning.Effects as effect
use Rattle.ed_commands.proofs.Changes.{same-texts}
use Rattle.ed_commands.proofs.Texts.{texts-marked_at}
use Rattle.ed_commands.proofs.Held.{held}
use Rattle.ed_commands.proofs.editor.Editor.mark.Goals as goal

pub returns-clause-exact : goal.returns-clause-exact
returns-clause-exact g c =
    let e = c.self.inside in
    let lines = g.S.LineStore.lines e.store in
    let s = held lines e.current e.pattern e.replacement e.name e.changed e.past in
    let is : s ≡ c.args.self.now.state = ap (λ v. v.state) c.self.view_is in
    let place = c.args.span.last - 1 in
    same-texts s e.past e.current (g.S.LineStore.lines c.mark.new.self) (marked_at place c.args.letter lines) refl c.mark.ensures.marked (texts-marked_at place c.args.letter lines)
    ∙ ap (λ t. (effect.mark c.args.letter (ranges.span c.args.span.last c.args.span.last) t).state) is
