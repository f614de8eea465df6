-- The session of the script that was read has done what the run of the script says, or there was no memory to begin.
use Rattle.std.proofs.Common.{◌∙◌, ap}
use Rattle.std.proofs.Math.Seq.{drop-length}
use Rattle.ed_syntax.specs.meaning.Runs.{run}
use Rattle.ed_session.specs.Sessions.{SessionValue}
use Rattle.ed_calls.proofs.Correctness.{driven_correct, unbegun_correct}
use Rattle.ed_calls.proofs.editing.edit.Goals as goal

pub returns-in-Ok-new-clause-correct : goal.returns-in-Ok-new-clause-correct
returns-in-Ok-new-clause-correct g c =
    let s = c.in-Ok-new.ensures in
    rw c.status_of_end.ensures.value
    (driven_correct c.scripts_are_read_as_spelled.ensures.spelled c.cut_runs_write_a_front.ensures.after _ c.args.script.now c.args.options _ _ _ _ _
    (ap (λ (v : SessionValue). v.phase) s.value) c.drive-end.ensures.file_refused (λ given. s.rest given ∙ ap (λ read. run read c.args.options given) c.in-Ok.ensures.value) (ap (λ (v : SessionValue). v.pending) s.value) c.drive-end.ensures.run)

pub returns-in-Err-clause-correct : goal.returns-in-Err-clause-correct
returns-in-Err-clause-correct g c =
    unbegun_correct c.scripts_are_read_as_spelled.ensures.spelled c.args.script.now c.args.options _ _ _ _ _ (drop-length (g.O.Outside.log c.args.outside.now)) c.status-in-Err.ensures.value

pub returns-in_default-clause-correct : goal.returns-in_default-clause-correct
returns-in_default-clause-correct g c =
    unbegun_correct c.scripts_are_read_as_spelled.ensures.spelled c.args.script.now c.args.options _ _ _ _ _ (drop-length (g.O.Outside.log c.args.outside.now)) c.status.ensures.value
