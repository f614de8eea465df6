-- The conditions that are left come after those that were said.
use Rattle.std.proofs.Common.{◌≡◌, [], map, drop, string_bytes}
use Rattle.hints.specs.StartWords.{together}
use Rattle.hints.proofs.wording.together.Given as goal

abbrev pub invariant-loop-condition : goal.invariant-loop-condition
invariant-loop-condition l =
    together (string_bytes l.words) (map (λ condition. string_bytes condition) (drop l.condition-index l.conditions)) ≡ together [] (map (λ condition. string_bytes condition) l.conditions)
