-- the chains that are left add the rest
use Rattle.std.proofs.Common.{◌≡◌, ◌++◌, drop, map}
use Rattle.std.specs.List.{flat_map}
use Rattle.landmarks.specs.Starting.{named, lines_of, clear_of}
use Rattle.landmarks.proofs.starting.tell_chains.Given as goal

abbrev pub invariant-loop-chain : goal.invariant-loop-chain
invariant-loop-chain l = record {
  lines : l.facts.lines ++ flat_map lines_of (named l.left (map (λ chain. chain.landmarks) (drop l.chain-index l.chains))) ≡
      l.initial.facts.lines ++ flat_map lines_of (named l.names (map (λ chain. chain.landmarks) l.chains));
  clear : l.facts.clear ++ flat_map clear_of (named l.left (map (λ chain. chain.landmarks) (drop l.chain-index l.chains))) ≡
      l.initial.facts.clear ++ flat_map clear_of (named l.names (map (λ chain. chain.landmarks) l.chains));
}
