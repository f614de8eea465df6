use Rattle.std.proofs.Common.{sym}
use Rattle.ed_base.specs.Lines.{lines_of}
use Rattle.ed_rules.proofs.matches.Watched.{none-matches}
use Rattle.ed_rules.proofs.matched.some_line_matches.Goals as goal

pub returns-in_default : goal.returns-in_default
returns-in_default c = record { value = sym (none-matches c.args.pattern.now c.in-Err.fault (lines_of c.args.file.now) (c.in-Err.ensures.first_fault c.in_default.not-Memory)) }
