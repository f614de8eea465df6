use Rattle.std.proofs.Common.{◌≡◌, map, take, string_bytes}
use Rattle.hints.specs.Shown.{quoted_text}
use Rattle.hints.proofs.landmark_words.quoted_each.Given as goal

abbrev pub invariant-loop-pattern : goal.invariant-loop-pattern
invariant-loop-pattern l = map (λ words. string_bytes words) l.shown.items ≡ map quoted_text (take l.pattern-index l.patterns)
