use Rattle.std.proofs.Common.{◌≡◌, ◌++◌, drop, flat_map}
use Rattle.ed_rules.specs.facts.Facts.{told}
use Rattle.ed_rules.specs.facts.EditedFacts.{told_fact}
use Rattle.ed_rules.proofs.line_facts.LineFacts.told_as.Given as goal

abbrev pub invariant-loop-pattern : goal.invariant-loop-pattern
invariant-loop-pattern l =
    l.lines.items ++ flat_map (λ p. told_fact l.x p (told l.zone l.self l.y p)) (drop l.pattern-index l.pattern-items) ≡
    flat_map (λ p. told_fact l.x p (told l.zone l.self l.y p)) l.patterns
