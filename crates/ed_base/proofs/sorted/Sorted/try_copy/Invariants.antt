use Rattle.std.proofs.Common.{◌≡◌, take}
use Rattle.ed_base.proofs.sorted.Sorted.try_copy.Given as goal

abbrev pub invariant-loop-member : goal.invariant-loop-member
invariant-loop-member g l = l.members.items ≡ take l.member-index l.member-items
