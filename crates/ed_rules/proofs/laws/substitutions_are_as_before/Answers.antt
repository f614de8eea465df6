use Rattle.ed_rules.proofs.matches.AsBefore.{each-as_before, some-as_before}
use Rattle.ed_rules.proofs.laws.substitutions_are_as_before.Goals as goal

pub returns : goal.returns
returns c = record { each = each-as_before; some = some-as_before }
