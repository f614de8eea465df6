use Rattle.ed_syntax.proofs.meaning.CommandSteps.{lists_add_no_flags}
use Rattle.ed_syntax.proofs.laws.lists_add_no_flags.Goals as goal

pub returns : goal.returns
returns c = record { flags = lists_add_no_flags }
