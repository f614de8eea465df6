use Rattle.std.proofs.Common.{None, arith, ext_get_or}
use Rattle.bre_match.proofs.state.are_same.Goals as goal

pub returns : goal.returns
returns c = record {
  sound = λ e. ext_get_or None c.args.marks.now c.args.others.now (omega arith) (λ k lt. c.loop-at.invariant k (omega arith));
}
