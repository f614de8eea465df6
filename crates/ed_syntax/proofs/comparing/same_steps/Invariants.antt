use Rattle.std.proofs.Common.{◌≡◌, ◌↔◌, length, map}
use Rattle.ed_syntax.specs.PublicTypes.{step_value}
use Rattle.ed_syntax.proofs.comparing.same_steps.Given as goal

abbrev pub decreases-loop-left : goal.decreases-loop-left
decreases-loop-left l = length l.left

-- what is left is alike just where all is
abbrev pub invariant-loop-left : goal.invariant-loop-left
invariant-loop-left l = (map step_value l.fn.one ≡ map step_value l.fn.other) ↔ (map step_value l.left ≡ map step_value l.right)
