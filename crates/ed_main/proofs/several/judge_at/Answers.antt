use Rattle.ed_main.specs.Several as meaning
use Rattle.ed_main.proofs.several.judge_at.Goals as goal

pub returns-in-Ok-clause-came : goal.returns-in-Ok-clause-came
returns-in-Ok-clause-came g c = meaning.judged c.as_slice.result.now c.judge_named.ensures.judged

pub returns-in-Err-clause-came : goal.returns-in-Err-clause-came
returns-in-Err-clause-came g c = meaning.unread _ c.status_of_read.ensures.value
