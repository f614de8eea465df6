use Rattle.std.proofs.Common.{refl}
use Rattle.ed_main.proofs.task.do_over.Goals as goal

pub returns-clause-came : goal.returns-clause-came
returns-clause-came g c = (record { log = _; refusals_before = _; refusals = _; sink = _ }, (refl, c.perform-status.ensures.came))
