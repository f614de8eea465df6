use Rattle.ed_main.specs.Letters as meaning
use Rattle.ed_main.proofs.program.edit_if_lettered.Goals as goal

pub returns-in-Some-clause-came : goal.returns-in-Some-clause-came
returns-in-Some-clause-came g c = meaning.refused (rw c.in-Some.is at c.refusal_for.ensures.refused)

pub returns-in-None-clause-came : goal.returns-in-None-clause-came
returns-in-None-clause-came g c = meaning.enough (rw c.in-None.is at c.refusal_for.ensures.enough) c.edit_over.ensures.came
