use Rattle.std.proofs.Common.{take}
use Rattle.std.specs.List.{All}
use Rattle.ed_rules.specs.facts.Facts.{LineFact}
use Rattle.cert_check.specs.text.FactsText.{AreBytes}
use Rattle.analyser.proofs.fact_texts.lines_are_bytes.Given as goal

abbrev pub invariant-loop-fact : goal.invariant-loop-fact
invariant-loop-fact l = All (λ (f : LineFact). AreBytes f.pattern) (take l.fact-index l.lines)
