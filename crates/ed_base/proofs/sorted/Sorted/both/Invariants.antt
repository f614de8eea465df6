use Rattle.std.proofs.Common.{◌≡◌, ◌++◌, drop}
use Rattle.std.specs.List.{filter}
use Rattle.ed_base.specs.Sorted.{has_member}
use Rattle.ed_base.proofs.sorted.Sorted.both.Given as goal

abbrev pub invariant-loop-member : goal.invariant-loop-member
invariant-loop-member g l =
    let keep = has_member g.T.Ord.cmp l.other in filter keep l.self ≡ l.members.items ++ filter keep (drop l.member-index l.member-items)
