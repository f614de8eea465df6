-- The patterns that were passed come after the bounds.
use Rattle.std.proofs.Common.{◌≡◌, ◌++◌, map, take, string_bytes}
use Rattle.hints.specs.StartWords.{bounds_words, pattern_words}
use Rattle.hints.proofs.wording.start_conditions.Given as goal

abbrev pub invariant-loop-pattern : goal.invariant-loop-pattern
invariant-loop-pattern l =
    map (λ words. string_bytes words) l.said.items ≡ bounds_words l.start.min l.start.max ++ map pattern_words (take l.pattern-index l.pattern-items)
