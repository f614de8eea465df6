use Rattle.std.proofs.Common.{◌≡◌, drop, map}
use Rattle.ed_rules.specs.Texts.{with_texts}
use Rattle.ed_rules.specs.facts.Facts.{LineFact}
use Rattle.ed_rules.proofs.line_facts.LineFacts.add_patterns_of_lines.Given as goal

abbrev pub invariant-loop-fact : goal.invariant-loop-fact
invariant-loop-fact l =
    with_texts (map (λ (f : LineFact). f.pattern) l.self.lines) l.fn.patterns ≡
    with_texts (map (λ (f : LineFact). f.pattern) (drop l.fact-index l.fact-items)) l.patterns
