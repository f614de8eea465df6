use Rattle.ed_syntax.proofs.meaning.CommandSteps as command
use Rattle.ed_syntax.proofs.laws.commands_keep_marks.Goals as goal

pub returns : goal.returns
returns c = record { marks = command.commands_keep_marks; global = command.open_keeps_marks }
