use Rattle.ed_syntax.proofs.meaning.RunLemmas.{never_memory, never_output, files_have_a_cause}
use Rattle.ed_syntax.proofs.laws.runs_end_for_a_cause.Goals as goal

pub returns : goal.returns
returns c = record { memory = never_memory; output = never_output; file = files_have_a_cause }
