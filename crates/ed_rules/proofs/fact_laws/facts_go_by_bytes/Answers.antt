use Rattle.ed_rules.proofs.facts.FactsByBytes.{FactsHold-bytes}
use Rattle.ed_rules.proofs.fact_laws.facts_go_by_bytes.Goals as goal

pub returns : goal.returns
returns c = record { holds = FactsHold-bytes }
