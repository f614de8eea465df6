-- The copy of the starts is what they are.
use Rattle.std.proofs.Common.{sym, subst}
use Rattle.ed_main.specs.Letters as meaning
use Rattle.ed_main.specs.Starts.{AreStarts}
use Rattle.ed_main.proofs.several.judge_named.Goals as goal

pub judge_bytes-requires : goal.judge_bytes-requires
judge_bytes-requires g c = record { given = subst AreStarts (sym c.in-Ok.ensures.value) c.requires.given }

pub returns-in-Ok-clause-judged : goal.returns-in-Ok-clause-judged
returns-in-Ok-clause-judged g c = rw c.in-Ok.ensures.value at c.judge_bytes.ensures.judged

pub returns-in-Err-clause-judged : goal.returns-in-Err-clause-judged
returns-in-Err-clause-judged g c = meaning.refused (meaning.no_memory c.status.ensures.value)
