use Rattle.std.proofs.Common.{◌≡◌}
use Rattle.ed_rules.specs.Marks.{for_each_sure}
use Rattle.ed_rules.specs.Move.{mark_moved}
use Rattle.ed_rules.proofs.moves.move_marks.Given as goal

abbrev pub invariant-loop-place : goal.invariant-loop-place
invariant-loop-place l = l.zone ≡ for_each_sure (mark_moved l.way l.before) l.marks l.place l.initial.zone
