use Rattle.ed_rules.proofs.facts.SubstitutedFacts.{substituted-hold, made-unmatched}
use Rattle.ed_rules.proofs.fact_laws.substituted_facts_are_true.Goals as goal

pub returns : goal.returns
returns c = record { facts = substituted-hold; unmatched = made-unmatched }
