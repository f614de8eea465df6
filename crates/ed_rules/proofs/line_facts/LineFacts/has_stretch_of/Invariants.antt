use Rattle.std.proofs.Common.{◌≡◌, drop}
use Rattle.std.specs.List.{list_any}
use Rattle.ed_rules.specs.facts.Facts.{Stretch, same_text}
use Rattle.ed_rules.proofs.line_facts.LineFacts.has_stretch_of.Given as goal

abbrev pub invariant-loop-stretch : goal.invariant-loop-stretch
invariant-loop-stretch l =
    list_any (λ (s : Stretch). same_text s.pattern l.pattern) l.self.clear ≡
    list_any (λ (s : Stretch). same_text s.pattern l.pattern) (drop l.stretch-index l.stretch-items)
