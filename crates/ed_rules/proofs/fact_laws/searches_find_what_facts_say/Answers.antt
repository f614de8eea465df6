use Rattle.ed_rules.proofs.facts.FoundLines.{witnessed-matched, forward-search, backward-search}
use Rattle.ed_rules.proofs.fact_laws.searches_find_what_facts_say.Goals as goal

pub returns : goal.returns
returns c = record { some_line = witnessed-matched; forward = forward-search; backward = backward-search }
