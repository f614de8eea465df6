use Rattle.std.proofs.Common.{◌≡◌, ◌++◌, drop}
use Rattle.std.specs.List.{filter}
use Rattle.ed_rules.specs.facts.Facts.{Stretch, same_text}
use Rattle.ed_rules.specs.facts.NewLines.{clear_of}
use Rattle.ed_rules.proofs.line_facts.LineFacts.clear_of.Given as goal

abbrev pub invariant-loop-stretch : goal.invariant-loop-stretch
invariant-loop-stretch l =
    l.clear.items ++ filter (λ (s : Stretch). same_text s.pattern l.pattern) (drop l.stretch-index l.stretch-items) ≡ clear_of l.pattern l.self
