use Rattle.std.proofs.Common.{◌∙◌, ap, refl}
use Rattle.ed_session.specs.MemFiles.{log_of}
use Rattle.ed_main.specs.declared.writing.Writing.TheVariants as writing
use Rattle.ed_main.proofs.Made.{made}
use Rattle.ed_main.proofs.Rehearsing.{ends_rehearsed}
use Rattle.ed_main.proofs.task.rehearse.Goals as goal

pub returns-clause-came : goal.returns-clause-came
returns-clause-came g c =
    made c.args.task _ _ _ (writing.Never c.args.whole c.args.spares c.args.shows c.args.suffix) c.do_over-status.ensures.came
    (ends_rehearsed _ _ _ _ _ _ _ (c.new-files.ensures.log ∙ c.new-rehearsal.ensures.log) (ap (λ r. log_of r.files) c.into_files-rehearsal.ensures.value)
    c.real_files_are_only_read.ensures.no_write c.writes_are_done.ensures.done c.reads_show_what_was_written.ensures.rehearsed
    c.show_writes-is_hindered.ensures.some c.status_ahead.ensures.value)
