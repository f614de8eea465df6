use Rattle.std.proofs.Common.{◌≡◌, drop}
use Rattle.ed_base.specs.Sorted.{has_members}
use Rattle.ed_base.proofs.sorted.Sorted.are_among.Given as goal

abbrev pub invariant-loop-member : goal.invariant-loop-member
invariant-loop-member g l = has_members g.T.Ord.cmp l.self l.many ≡ has_members g.T.Ord.cmp (drop l.member-index l.member-items) l.many
