use Rattle.std.proofs.Common.{◌≡◌}
use Rattle.ed_rules.specs.Marks.{for_each_sure}
use Rattle.ed_rules.specs.Pieces.{mark_pushed}
use Rattle.ed_rules.proofs.pieces.push_marks.Given as goal

abbrev pub invariant-loop-place : goal.invariant-loop-place
invariant-loop-place l = l.zone ≡ for_each_sure (mark_pushed l.x l.c l.low l.high) l.marks l.place l.initial.zone
