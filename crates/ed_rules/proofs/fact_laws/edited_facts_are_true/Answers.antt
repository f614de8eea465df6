use Rattle.ed_rules.proofs.facts.EditedFacts.{edit-holds, stays-true}
use Rattle.ed_rules.proofs.fact_laws.edited_facts_are_true.Goals as goal

pub returns : goal.returns
returns c = record { facts = edit-holds; letters = stays-true }
