use Rattle.ed_main.specs.Letters as meaning
use Rattle.ed_main.proofs.program.vouch_if_lettered.Goals as goal

pub returns-in-Some-clause-came : goal.returns-in-Some-clause-came
returns-in-Some-clause-came g c = meaning.refused (rw c.in-Some.is at c.refusal_for.ensures.refused)

pub returns-after-are_sought-clause-came : goal.returns-after-are_sought-clause-came
returns-after-are_sought-clause-came g c = meaning.enough (rw c.in-None.is at c.refusal_for.ensures.enough) c.vouch_file.ensures.came
