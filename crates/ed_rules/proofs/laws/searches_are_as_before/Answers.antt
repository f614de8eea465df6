use Rattle.ed_rules.proofs.matches.AsBefore.{searches-as_before}
use Rattle.ed_rules.proofs.laws.searches_are_as_before.Goals as goal

pub returns : goal.returns
returns c = record { need = searches-as_before }
