use Rattle.ed_syntax.proofs.spelled.ReadableLemmas.{spelled-readable}
use Rattle.ed_syntax.proofs.laws.spelled_scripts_are_readable.Goals as goal

pub returns : goal.returns
returns c = record { readable = spelled-readable }
