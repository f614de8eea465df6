use Rattle.ed_rules.proofs.facts.FactsOrdered.{FactsHold-both, FactsHold-both_other, FactsHold-covers}
use Rattle.ed_rules.proofs.fact_laws.weaker_facts_hold_more.Goals as goal

pub returns : goal.returns
returns c = record {
  both = λ one other zone. FactsHold-both one zone other;
  both_other = λ one other zone. FactsHold-both_other one zone other;
  covers = λ weak strong zone. FactsHold-covers weak zone strong;
}
