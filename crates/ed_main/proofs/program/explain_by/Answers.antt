use Rattle.std.specs.Prelude.{[]}
use Rattle.ed_main.proofs.program.explain_by.Goals as goal

pub returns-clause-came : goal.returns-clause-came
returns-clause-came g c = (record { log = []; refusals_before = 0; refusals = 0; sink = _ }, c.explain_certificate-status.ensures.says)
