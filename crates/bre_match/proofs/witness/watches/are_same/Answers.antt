use Rattle.std.proofs.Common.{None, arith, ext_get_or}
use Rattle.bre_match.proofs.witness.watches.are_same.Goals as goal

pub returns : goal.returns
returns c = record {
  sound = λ e. ext_get_or None c.args.watches.now c.args.others.now (omega arith) (λ k lt. c.loop-at.invariant k (omega arith));
}
