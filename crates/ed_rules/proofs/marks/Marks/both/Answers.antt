use Rattle.std.proofs.Common.{arith}
use Rattle.ed_rules.proofs.sound.Letters.{both_sure-each}
use Rattle.ed_rules.proofs.marks.Marks.both.Goals as goal

pub invariant_of-result : goal.invariant_of-result
invariant_of-result c = c.loop-place.invariant.size

pub returns : goal.returns
returns c = record {
  value = rw (← c.self.view_is, ← c.other.view_is)
      (both_sure-each c.loop-place.sure c.self.inside.sure c.other.inside.sure c.loop-place.invariant.size (λ k h. c.loop-place.invariant.done k (omega arith)));
}
