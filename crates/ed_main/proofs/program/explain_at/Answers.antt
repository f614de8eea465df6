use Rattle.ed_main.specs.Wanted as meaning
use Rattle.ed_main.proofs.program.explain_at.Goals as goal

pub returns-in-Ok-clause-came : goal.returns-in-Ok-clause-came
returns-in-Ok-clause-came g c = meaning.read c.as_slice.result.now c.explain_by.ensures.came

pub returns-in-Err-clause-came : goal.returns-in-Err-clause-came
returns-in-Err-clause-came g c = meaning.unread _ c.status_of_read.ensures.value
