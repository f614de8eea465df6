use Rattle.ed_main.specs.Letters as meaning
use Rattle.ed_main.proofs.several.judge_bytes.Goals as goal

pub returns-in-Some-clause-judged : goal.returns-in-Some-clause-judged
returns-in-Some-clause-judged g c = meaning.refused (rw c.in-Some.is at c.refusal_for.ensures.refused)

pub returns-in-None-clause-judged : goal.returns-in-None-clause-judged
returns-in-None-clause-judged g c = meaning.enough (rw c.in-None.is at c.refusal_for.ensures.enough) c.judge_lettered.ensures.judged
