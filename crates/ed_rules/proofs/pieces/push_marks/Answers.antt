use Rattle.std.proofs.Common.{sym, of_z, to_z, w64, ℤ, ◌∙◌}
use Rattle.ed_rules.specs.Pieces.{mark_pushed}
use Rattle.ed_rules.proofs.Folds.{for_each_sure-none, sure-taken, sure-left_out}
use Rattle.ed_rules.proofs.pieces.push_marks.Goals as goal
use Rattle.ed_rules.proofs.pieces.push_marks.Goals.{then-is_sure, else-is_sure}

pub loop-place-init : goal.loop-place-init
loop-place-init c = let k : ℤ = to_z w64 (of_z w64 c.args.c) in sym (for_each_sure-none (mark_pushed c.args.x k c.args.low c.args.high) c.args.marks.now c.args.zone.now)

pub loop-place-preserved : goal.loop-place-preserved
loop-place-preserved c = let k : ℤ = to_z w64 (of_z w64 c.args.c) in elim c.if-is_sure.branch [
  | then-is_sure w ↦ sure-taken (mark_pushed c.args.x k c.args.low c.args.high) c.args.marks.now c.loop-place.place _ c.args.zone.now _ _ c.at-letter.ensures.value c.loop-place.invariant
      (sym c.is_sure.ensures.value ∙ w.if-is_sure.true) (w.zone-is ∙ w.push_mark.ensures.exact)
  | else-is_sure w ↦ sure-left_out (mark_pushed c.args.x k c.args.low c.args.high) c.args.marks.now c.loop-place.place _ c.args.zone.now _ _ c.at-letter.ensures.value c.loop-place.invariant
      (sym c.is_sure.ensures.value ∙ w.if-is_sure.false) w.zone-is
]
