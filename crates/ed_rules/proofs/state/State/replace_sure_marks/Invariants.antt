use Rattle.std.proofs.Common.{◌≡◌}
use Rattle.ed_rules.specs.Marks.{for_each_sure}
use Rattle.ed_rules.specs.Pieces.{mark_replaced}
use Rattle.ed_rules.proofs.state.State.replace_sure_marks.Given as goal

abbrev pub invariant-loop-place : goal.invariant-loop-place
invariant-loop-place l = l.self ≡ for_each_sure (mark_replaced l.before l.count) l.marks l.place l.initial.self
