use Rattle.std.specs.Cmp.Lexicographic.{nat_list_cmp_total}
use Rattle.ed_base.proofs.SortedLemmas.{insert-rises}
use Rattle.ed_base.proofs.sorted.Sorted+Bytes.add.Goals as goal

pub invariant_of-self : goal.invariant_of-self
invariant_of-self c = insert-rises nat_list_cmp_total c.args.text.now _ c.self.inside.members.items c.as_slice.result.now c.insert.new.self.items c.in-Err.place
    c.in-Err.ensures.place c.as_slice.ensures.value c.in_ok-copy.ensures.value c.in_ok-insert.ensures.items c.self.invariant
