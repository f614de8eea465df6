use Rattle.ed_calls.proofs.Checks.{runs_end_well}
use Rattle.ed_calls.proofs.laws.accepted_runs_end_well.Goals as goal

pub returns : goal.returns
returns c = record { sound = runs_end_well c.cut_runs_write_a_front.ensures.after c.accepted_scripts_cannot_fail.ensures.sound }
