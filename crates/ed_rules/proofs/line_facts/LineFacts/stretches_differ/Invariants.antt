use Rattle.std.proofs.Common.{◌≡◌, drop}
use Rattle.std.specs.List.{list_any}
use Rattle.ed_rules.specs.facts.Facts.{Stretch, told, are_opposite}
use Rattle.ed_rules.proofs.line_facts.LineFacts.stretches_differ.Given as goal

abbrev pub invariant-loop-stretch : goal.invariant-loop-stretch
invariant-loop-stretch l =
    list_any (λ (s : Stretch). are_opposite (told l.zone l.self l.x s.pattern) (told l.zone l.self l.y s.pattern)) l.self.clear ≡
    list_any (λ (s : Stretch). are_opposite (told l.zone l.self l.x s.pattern) (told l.zone l.self l.y s.pattern)) (drop l.stretch-index l.stretch-items)
