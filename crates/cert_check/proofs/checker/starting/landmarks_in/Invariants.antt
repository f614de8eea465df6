-- the chains that are left have the rest
use Rattle.std.proofs.Common.{◌≡◌, ◌+◌, drop}
use Rattle.cert_check.specs.checker.Beginning.{landmarks_of, count_of}
use Rattle.cert_check.proofs.checker.starting.landmarks_in.Given as goal

abbrev pub invariant-loop-chain : goal.invariant-loop-chain
invariant-loop-chain l = l.count + count_of (landmarks_of (drop l.chain-index l.chains)) ≡ count_of (landmarks_of l.chains)
