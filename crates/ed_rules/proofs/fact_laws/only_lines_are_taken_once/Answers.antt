use Rattle.ed_rules.proofs.facts.OneTurn.{taken-once}
use Rattle.ed_rules.proofs.fact_laws.only_lines_are_taken_once.Goals as goal

pub returns : goal.returns
returns c = record { once = taken-once }
