use Rattle.ed_rules.proofs.facts.FactsOrdered.{cover-itself, cover-both, cover-both_other, cover-on}
use Rattle.ed_rules.proofs.fact_laws.joined_facts_are_covered.Goals as goal

pub returns : goal.returns
returns c = record { same = cover-itself; both = cover-both; both_other = cover-both_other; on = cover-on }
