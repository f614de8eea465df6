use Rattle.std.proofs.Common.{◌≡◌, drop}
use Rattle.std.specs.List.{list_any}
use Rattle.ed_rules.specs.facts.Facts.{same_text}
use Rattle.ed_rules.proofs.line_facts.rewritten.has_text.Given as goal

abbrev pub invariant-loop-other : goal.invariant-loop-other
invariant-loop-other l = list_any (λ q. same_text q l.text) (drop l.other-index l.texts) ≡ list_any (λ q. same_text q l.text) l.texts
