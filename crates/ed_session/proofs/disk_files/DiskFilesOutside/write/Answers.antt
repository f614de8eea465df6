use Rattle.ed_session.proofs.Refusing.{reason_kept}
use Rattle.ed_session.proofs.disk_files.DiskFilesOutside.write.Goals as goal

pub invariant_of-self-then-matches-clause-refused : goal.invariant_of-self-then-matches-clause-refused
invariant_of-self-then-matches-clause-refused g c =
    reason_kept c.write_answer.new.reason c.in_ok-answer.answer _ _ _ _ c.in_ok-answer.ensures.exact c.of-seen.ensures.value c.in_ok-push.ensures.items
