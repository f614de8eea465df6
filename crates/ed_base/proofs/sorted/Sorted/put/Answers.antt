use Rattle.ed_base.proofs.SortedLemmas.{insert-rises}
use Rattle.ed_base.proofs.sorted.Sorted.put.Goals as goal

pub invariant_of-self-in_ok-insert : goal.invariant_of-self-in_ok-insert
invariant_of-self-in_ok-insert g c =
    insert-rises g.met.T.Ord.total c.args.item.now c.in_ok-try_copy.field-0 c.self.inside.members.items c.as_slice.result.now c.insert.new.self.items c.in-Err.place
    c.in-Err.ensures.place c.as_slice.ensures.value c.in_ok-try_copy.ensures.value c.in_ok-insert.ensures.items c.self.invariant
