use Rattle.std.proofs.Common.{sym, ◌∙◌}
use Rattle.ed_rules.specs.Pieces.{mark_replaced}
use Rattle.ed_rules.proofs.Folds.{for_each_sure-none, sure-taken, sure-left_out}
use Rattle.ed_rules.proofs.state.State.replace_sure_marks.Goals as goal
use Rattle.ed_rules.proofs.state.State.replace_sure_marks.Goals.{then-is_sure, else-is_sure}

pub loop-place-init : goal.loop-place-init
loop-place-init c = sym (for_each_sure-none (mark_replaced c.args.before.now c.args.count) c.args.marks.now c.args.self.now)

pub loop-place-preserved : goal.loop-place-preserved
loop-place-preserved c = elim c.if-is_sure.branch [
  | then-is_sure w ↦ sure-taken (mark_replaced c.args.before.now c.args.count) c.args.marks.now c.loop-place.place _ c.args.self.now _ _ c.at-letter.ensures.value c.loop-place.invariant
      (sym c.is_sure.ensures.value ∙ w.if-is_sure.true) (w.self-is ∙ w.replace_mark.ensures.exact)
  | else-is_sure w ↦ sure-left_out (mark_replaced c.args.before.now c.args.count) c.args.marks.now c.loop-place.place _ c.args.self.now _ _ c.at-letter.ensures.value c.loop-place.invariant
      (sym c.is_sure.ensures.value ∙ w.if-is_sure.false) w.self-is
]
