-- What the landmarks that are left say comes after what was said.
use Rattle.std.proofs.Common.{◌≡◌, ◌++◌, false, length, map, string_bytes}
use Rattle.hints.specs.StartWords.{chain_words}
use Rattle.hints.proofs.landmark_words.push_chain.Given as goal

abbrev pub invariant-landmarks : goal.invariant-landmarks
invariant-landmarks l =
    map (λ words. string_bytes words) l.said.items ++ chain_words l.is_below l.left ≡ map (λ words. string_bytes words) l.initial.said.items ++ chain_words false l.chain

abbrev pub decreases-landmarks : goal.decreases-landmarks
decreases-landmarks l = length l.left
