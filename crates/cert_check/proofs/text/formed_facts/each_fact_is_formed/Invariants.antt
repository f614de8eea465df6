use Rattle.std.proofs.Common.{take}
use Rattle.std.specs.List.{All}
use Rattle.cert_check.specs.text.FactsText.{FactIsFormed}
use Rattle.cert_check.proofs.text.formed_facts.each_fact_is_formed.Given as goal

abbrev pub invariant-loop-fact : goal.invariant-loop-fact
invariant-loop-fact l = All (FactIsFormed l.marks) (take l.fact-index l.facts)
