use Rattle.ed_syntax.proofs.meaning.CutLemmas.{cuts_to_a_front, cuts_after}
use Rattle.ed_syntax.proofs.laws.cut_runs_write_a_front.Goals as goal

pub returns : goal.returns
returns c = record { front = cuts_to_a_front; after = cuts_after }
