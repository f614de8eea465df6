use Rattle.ed_base.proofs.LineLemmas.{bytes_of-ended, lines_of-cut}
use Rattle.ed_base.proofs.lines.lines_are_cut_at_newlines.Goals as goal

pub returns-clause-cut : goal.returns-clause-cut
returns-clause-cut c = lines_of-cut

pub returns-clause-written : goal.returns-clause-written
returns-clause-written c = bytes_of-ended
