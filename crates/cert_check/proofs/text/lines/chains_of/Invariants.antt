use Rattle.std.proofs.Common.{◌≡◌, map, take}
use Rattle.std.specs.List.{All}
use Rattle.landmarks.specs.Spelled.{SpellsChain}
use Rattle.cert_check.proofs.text.lines.chains_of.Given as goal

-- the texts so far are those of chains
abbrev pub invariant-loop-text : goal.invariant-loop-text
invariant-loop-text l = record {
  texts : map (λ chain. chain.text) l.chains.items ≡ take l.text-index l.texts;
  each : All (λ chain. SpellsChain chain.text chain.landmarks) l.chains.items;
}
