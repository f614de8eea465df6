use Rattle.std.proofs.Common.{◌≡◌, drop}
use Rattle.std.specs.List.{list_any}
use Rattle.ed_rules.specs.facts.Facts.{LineFact, told, are_opposite}
use Rattle.ed_rules.proofs.line_facts.LineFacts.lines_differ.Given as goal

abbrev pub invariant-loop-fact : goal.invariant-loop-fact
invariant-loop-fact l =
    list_any (λ (f : LineFact). are_opposite (told l.zone l.self l.x f.pattern) (told l.zone l.self l.y f.pattern)) l.self.lines ≡
    list_any (λ (f : LineFact). are_opposite (told l.zone l.self l.x f.pattern) (told l.zone l.self l.y f.pattern)) (drop l.fact-index l.fact-items)
