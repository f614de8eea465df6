use Rattle.ed_syntax.proofs.meaning.CommandSteps.{lists_leave_undo}
use Rattle.ed_syntax.proofs.laws.listed_commands_leave_undo.Goals as goal

pub returns : goal.returns
returns c = record { undo = lists_leave_undo }
