use Rattle.ed_syntax.proofs.meaning.ErasedEffects as effect
use Rattle.ed_syntax.proofs.meaning.ErasedRuns as run
use Rattle.ed_syntax.proofs.meaning.MarkedStarts as start
use Rattle.ed_syntax.proofs.laws.unnamed_letters_change_nothing.Goals as goal

pub returns : goal.returns
returns c = record {
  command = effect.commands_leave_letters;
  run = run.runs_ignore_letters;
  start = start.starts_may_be_marked;
  lines = start.marked_lines_are_well;
  marks = start.marks_stand;
}
