-- The chains that were passed have their landmarks in the file: whether all have goes by those that are left.
use Rattle.std.proofs.Common.{◌↔◌, drop}
use Rattle.ed_base.specs.Lines.{lines_of}
use Rattle.cert_check.specs.checker.Beginning.{landmarks_of}
use Rattle.cert_check.specs.checker.Sound.{HaveLandmarks}
use Rattle.hints.proofs.allowing.missed_chain.Given as goal

abbrev pub invariant-loop-chain : goal.invariant-loop-chain
invariant-loop-chain l = HaveLandmarks (lines_of l.file) (landmarks_of l.chains) ↔ HaveLandmarks (lines_of l.file) (landmarks_of (drop l.chain-index l.chains))
