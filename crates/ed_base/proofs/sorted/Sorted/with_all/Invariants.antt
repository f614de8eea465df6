use Rattle.std.proofs.Common.{◌≡◌, drop}
use Rattle.ed_base.specs.Sorted.{with_members}
use Rattle.ed_base.proofs.sorted.Sorted.with_all.Given as goal

abbrev pub invariant-loop-member : goal.invariant-loop-member
invariant-loop-member g l = with_members g.T.Ord.cmp l.more l.self ≡ with_members g.T.Ord.cmp (drop l.member-index l.member-items) l.all
