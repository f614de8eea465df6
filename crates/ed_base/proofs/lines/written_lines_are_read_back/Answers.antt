use Rattle.ed_base.proofs.LineLemmas.{lines_of-bytes_of, lines_of-written}
use Rattle.ed_base.proofs.lines.written_lines_are_read_back.Goals as goal

pub returns-clause-alone : goal.returns-clause-alone
returns-clause-alone c = lines_of-bytes_of

pub returns-clause-before : goal.returns-clause-before
returns-clause-before c = lines_of-written
