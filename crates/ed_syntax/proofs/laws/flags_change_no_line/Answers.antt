use Rattle.ed_syntax.proofs.meaning.CommandSteps as command
use Rattle.ed_syntax.proofs.laws.flags_change_no_line.Goals as goal

pub returns : goal.returns
returns c = record { marks = command.flags_mark_nothing; lines = command.flags_are_no_bytes }
