use Rattle.ed_rules.proofs.facts.SearchOrder.{forward-found, backward-found}
use Rattle.ed_rules.proofs.fact_laws.searches_find_the_first.Goals as goal

pub returns : goal.returns
returns c = record { forward = forward-found; backward = backward-found }
