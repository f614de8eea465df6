use Rattle.ed_rules.proofs.facts.FactsTold.{le-true, is_clear-true, told-true, differ-true}
use Rattle.ed_rules.proofs.fact_laws.what_facts_say_is_true.Goals as goal

pub returns : goal.returns
returns c = record { order = le-true; clear = is_clear-true; told = told-true; differ = differ-true }
