use Rattle.ed_rules.proofs.facts.RewrittenLine.{sought-left-true}
use Rattle.ed_rules.proofs.fact_laws.rewritten_lines_are_as_told.Goals as goal

pub returns : goal.returns
returns c = record { told = sought-left-true }
