use Rattle.ed_main.proofs.program.fit_file.Goals as goal

pub returns-clause-came : goal.returns-clause-came
returns-clause-came g c = (record { log = _; refusals_before = 0; refusals = 0; sink = _ }, c.fit-status.ensures.came)
