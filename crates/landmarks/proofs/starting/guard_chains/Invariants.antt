-- the chains that are left bring the zone to the same
use Rattle.std.proofs.Common.{◌≡◌, drop, map}
use Rattle.std.specs.List.{flat_map}
use Rattle.landmarks.specs.Starting.{named, distances_of, guarded}
use Rattle.landmarks.proofs.starting.guard_chains.Given as goal

abbrev pub invariant-loop-chain : goal.invariant-loop-chain
invariant-loop-chain l =
    guarded (flat_map distances_of (named l.left (map (λ chain. chain.landmarks) (drop l.chain-index l.chains)))) l.zone ≡
    guarded (flat_map distances_of (named l.names (map (λ chain. chain.landmarks) l.chains))) l.initial.zone
