use Rattle.std.proofs.Common.{◌≡◌, drop, map}
use Rattle.ed_rules.specs.Texts.{with_texts}
use Rattle.ed_rules.specs.facts.Facts.{Stretch}
use Rattle.ed_rules.proofs.line_facts.LineFacts.add_patterns_of_stretches.Given as goal

abbrev pub invariant-loop-stretch : goal.invariant-loop-stretch
invariant-loop-stretch l =
    with_texts (map (λ (s : Stretch). s.pattern) l.self.clear) l.fn.patterns ≡
    with_texts (map (λ (s : Stretch). s.pattern) (drop l.stretch-index l.stretch-items)) l.patterns
