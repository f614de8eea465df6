use Rattle.std.proofs.Common.{◌≡◌, map, take, string_bytes}
use Rattle.hints.specs.StartWords.{of_lines}
use Rattle.hints.proofs.wording.lines_text.Given as goal

abbrev pub invariant-loop-bound : goal.invariant-loop-bound
invariant-loop-bound l = string_bytes l.words ≡ of_lines (map (λ bound. string_bytes bound) (take l.bound-index l.bounds))
