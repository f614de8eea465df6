-- One more change is taken back first.
use Rattle.std.proofs.Common.{◌∙◌, ap}
use Rattle.ed_commands.specs.Earlier.{earlier_of, texts_before}
use Rattle.ed_commands.proofs.Kept.{earlier_by, earlier-pushed}
use Rattle.ed_commands.proofs.editor.past.Past.push.Goals as goal

pub returns : goal.returns
unfolding earlier_of
returns c = record {
  kept = λ now.
      let e = c.self.inside in
      let change = c.args.change in
      ap (λ t. earlier_by e.undone e.global t now) c.push_reserved.ensures.items
      ∙ earlier-pushed e.undone e.global e.changes.items change now c.self.invariant.0 c.self.invariant.1
      ∙ ap (λ p. earlier_of p (texts_before change now)) c.self.view_is;
}
