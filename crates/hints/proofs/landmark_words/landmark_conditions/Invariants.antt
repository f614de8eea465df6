use Rattle.std.proofs.Common.{◌≡◌, map, take, string_bytes}
use Rattle.hints.specs.StartWords.{landmarks_words}
use Rattle.hints.proofs.landmark_words.landmark_conditions.Given as goal

abbrev pub invariant-loop-chain : goal.invariant-loop-chain
invariant-loop-chain l = map (λ words. string_bytes words) l.said.items ≡ landmarks_words (take l.chain-index l.chains)
