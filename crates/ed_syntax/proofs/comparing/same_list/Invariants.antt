use Rattle.std.proofs.Common.{◌≡◌, ◌↔◌, length, map}
use Rattle.ed_syntax.specs.PublicTypes.{command_value}
use Rattle.ed_syntax.proofs.comparing.same_list.Given as goal

abbrev pub decreases-loop-left : goal.decreases-loop-left
decreases-loop-left l = length l.left

-- what is left is alike just where all is
abbrev pub invariant-loop-left : goal.invariant-loop-left
invariant-loop-left l = (map command_value l.fn.one ≡ map command_value l.fn.other) ↔ (map command_value l.left ≡ map command_value l.right)
