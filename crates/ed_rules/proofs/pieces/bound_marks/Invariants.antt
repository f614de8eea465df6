use Rattle.std.proofs.Common.{◌≡◌}
use Rattle.ed_rules.specs.Marks.{for_each_sure}
use Rattle.ed_rules.specs.Pieces.{mark_bounded}
use Rattle.ed_rules.proofs.pieces.bound_marks.Given as goal

abbrev pub invariant-loop-place : goal.invariant-loop-place
invariant-loop-place l = l.zone ≡ for_each_sure mark_bounded l.marks l.place l.initial.zone
