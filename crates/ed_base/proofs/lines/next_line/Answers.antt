use Rattle.std.proofs.Common.{sym}
use Rattle.ed_base.proofs.LineLemmas.{lines_of-at, lines_of-last, IsLine-none}
use Rattle.ed_base.proofs.lines.next_line.Goals as goal

pub returns-in-Some-clause-first : goal.returns-in-Some-clause-first
returns-in-Some-clause-first c = lines_of-at c.args.bytes.now c.in-Some.end c.in-Some.ensures.0 c.in-Some.ensures.1

pub returns-in-None-clause-line : goal.returns-in-None-clause-line
returns-in-None-clause-line c = IsLine-none c.args.bytes.now c.in-None.ensures

pub returns-in-None-clause-first : goal.returns-in-None-clause-first
returns-in-None-clause-first c = lines_of-last c.args.bytes.now (sym c.if-is_empty.ensures) c.in-None.ensures
