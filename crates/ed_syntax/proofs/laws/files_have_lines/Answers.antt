use Rattle.ed_syntax.proofs.meaning.CommandSteps as command
use Rattle.ed_syntax.proofs.laws.files_have_lines.Goals as goal

pub returns : goal.returns
returns c = record { marks = command.files_are_well_marked; lines = command.files_are_whole }
