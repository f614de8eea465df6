use Rattle.ed_base.proofs.LineLemmas.{HoldsLines-lines_of, HoldsLines-only, HoldsLines-lines}
use Rattle.ed_base.proofs.lines.bytes_hold_their_lines.Goals as goal

pub returns-clause-held : goal.returns-clause-held
returns-clause-held c = HoldsLines-lines_of

pub returns-clause-only : goal.returns-clause-only
returns-clause-only c bytes lines holds = HoldsLines-only holds

pub returns-clause-lines : goal.returns-clause-lines
returns-clause-lines c bytes = HoldsLines-lines (HoldsLines-lines_of bytes)
