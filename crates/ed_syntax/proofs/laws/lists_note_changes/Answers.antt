use Rattle.ed_syntax.proofs.meaning.CommandSteps as command
use Rattle.ed_syntax.proofs.laws.lists_note_changes.Goals as goal

pub returns : goal.returns
returns c = record { notes = command.lists_note_changes }
