use Rattle.ed_syntax.proofs.meaning.CommandSteps as command
use Rattle.ed_syntax.proofs.laws.commands_keep_lines.Goals as goal

pub returns : goal.returns
returns c = record { lines = command.commands_keep_lines }
