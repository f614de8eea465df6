use Rattle.std.proofs.Common.{◌≡◌, ◌↔◌, length}
use Rattle.ed_syntax.proofs.comparing.same_parts.Given as goal

abbrev pub decreases-loop-left : goal.decreases-loop-left
decreases-loop-left l = length l.left

-- what is left is alike just where all is
abbrev pub invariant-loop-left : goal.invariant-loop-left
invariant-loop-left l = (l.fn.one ≡ l.fn.other) ↔ (l.left ≡ l.right)
