use Rattle.std.proofs.Common.{◌≡◌}
use Rattle.ed_rules.specs.Marks.{for_each_sure}
use Rattle.ed_rules.specs.Substituting.{mark_substituted}
use Rattle.ed_rules.proofs.state.State.substitute_sure_marks.Given as goal

abbrev pub invariant-loop-place : goal.invariant-loop-place
invariant-loop-place l = l.self ≡ for_each_sure (mark_substituted l.before l.splits) l.marks l.place l.initial.self
