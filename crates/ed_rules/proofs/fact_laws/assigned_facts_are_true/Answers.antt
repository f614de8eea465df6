use Rattle.ed_rules.proofs.facts.AssignedFacts.{assigned-holds, moved-holds}
use Rattle.ed_rules.proofs.fact_laws.assigned_facts_are_true.Goals as goal

pub returns : goal.returns
returns c = record { assigned = assigned-holds; moved = moved-holds }
