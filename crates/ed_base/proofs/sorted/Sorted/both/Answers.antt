use Rattle.std.proofs.Common.{◌≡◌, true, drop, subst}
use Rattle.std.specs.List.{filter}
use Rattle.ed_base.specs.Sorted.{rises, has_member}
use Rattle.ed_base.proofs.SortedLemmas.{front-rises, rising-filter}
use Rattle.ed_base.proofs.sorted.Sorted.both.Goals as goal

pub invariant_of-result : goal.invariant_of-result
invariant_of-result g c =
    let own : rises g.T.Ord.cmp c.args.self.now ≡ true = subst (λ set. rises g.T.Ord.cmp set ≡ true) c.self.view_is c.self.invariant in
    front-rises g.T.Ord.cmp c.loop-member.members.items
    (filter (has_member g.T.Ord.cmp c.args.other.now) (drop c.loop-member.member-index c.deref-member-items.result.now))
    (filter (has_member g.T.Ord.cmp c.args.other.now) c.args.self.now) c.loop-member.invariant
    (rising-filter g.met.T.Ord.total (has_member g.T.Ord.cmp c.args.other.now) c.args.self.now own)
