use Rattle.std.proofs.Common.{arith}
use Rattle.std.proofs.lemmas.Grind.{common_steps}
use Rattle.landmarks.proofs.Guarded.{guarded_append, guarded_chains}
use Rattle.landmarks.proofs.starting.guard_chains.Goals as goal

pub loop-chain-preserved : goal.loop-chain-preserved
loop-chain-preserved c = first_of (grind (arith, common_steps, guarded_append), grind (arith, common_steps, guarded_chains))
