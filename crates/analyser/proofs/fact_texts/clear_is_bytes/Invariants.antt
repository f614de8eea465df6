use Rattle.std.proofs.Common.{take}
use Rattle.std.specs.List.{All}
use Rattle.ed_rules.specs.facts.Facts.{Stretch}
use Rattle.cert_check.specs.text.FactsText.{AreBytes}
use Rattle.analyser.proofs.fact_texts.clear_is_bytes.Given as goal

abbrev pub invariant-loop-stretch : goal.invariant-loop-stretch
invariant-loop-stretch l = All (λ (s : Stretch). AreBytes s.pattern) (take l.stretch-index l.clear)
