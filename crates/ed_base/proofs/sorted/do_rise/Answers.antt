use Rattle.std.proofs.Common.{◌∙◌, arith, sym}
use Rattle.ed_base.proofs.SortedLemmas.{last-rises}
use Rattle.ed_base.proofs.sorted.do_rise.Goals as goal

pub returns : goal.returns
returns g c = record { value = sym (c.loop-next.invariant ∙ last-rises g.T.Ord.cmp c.args.members.now c.loop-next.next (omega arith) (omega arith)) }
