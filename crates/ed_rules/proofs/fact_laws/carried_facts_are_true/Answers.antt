use Rattle.ed_rules.proofs.facts.CarriedFacts.{carry-holds}
use Rattle.ed_rules.proofs.fact_laws.carried_facts_are_true.Goals as goal

pub returns : goal.returns
returns c = record { facts = carry-holds }
