use Rattle.std.proofs.Common.{◌≡◌, take}
use Rattle.landmarks.proofs.landmark_chains.LandmarkChains.from_slice.Given as goal

abbrev pub invariant-loop-chain : goal.invariant-loop-chain
invariant-loop-chain l = l.copies.items ≡ take l.chain-index l.chains
