use Rattle.ed_syntax.proofs.meaning.AnswerLemmas.{unasked_answers_do_nothing, nothing_is_asked_twice, only_unserved_files_fail}
use Rattle.ed_syntax.proofs.meaning.CommandSteps.{files_are_written_by_their_path}
use Rattle.ed_syntax.proofs.laws.answers_are_asked_for.Goals as goal

pub returns : goal.returns
returns c = record {
  unasked = unasked_answers_do_nothing;
  once = nothing_is_asked_twice;
  served = only_unserved_files_fail;
  written = files_are_written_by_their_path;
}
