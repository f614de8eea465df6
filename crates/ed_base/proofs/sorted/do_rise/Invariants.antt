use Rattle.std.proofs.Common.{◌≡◌, ◌-◌, drop}
use Rattle.ed_base.specs.Sorted.{rises}
use Rattle.ed_base.proofs.sorted.do_rise.Given as goal

-- the members before this one rise
abbrev pub invariant-loop-next : goal.invariant-loop-next
invariant-loop-next g l = rises g.T.Ord.cmp l.members ≡ rises g.T.Ord.cmp (drop (l.next - 1) l.members)
