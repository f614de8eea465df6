use Rattle.std.proofs.Common.{◌≡◌, ◌++◌, true, drop}
use Rattle.std.specs.List.{filter}
use Rattle.ed_rules.specs.facts.Facts.{tells}
use Rattle.ed_rules.proofs.line_facts.LineFacts.matched_at.Given as goal

abbrev pub invariant-loop-pattern : goal.invariant-loop-pattern
invariant-loop-pattern l =
    l.same.items ++ filter (λ q. tells l.zone l.self l.x q true) (drop l.pattern-index l.pattern-items) ≡
    filter (λ q. tells l.zone l.self l.x q true) l.patterns
