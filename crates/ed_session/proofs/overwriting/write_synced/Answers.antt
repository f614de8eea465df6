use Rattle.ed_session.proofs.Overwritten.{on_err, front-all}
use Rattle.ed_session.proofs.overwriting.write_synced.Goals as goal

pub returns-in_err-sync-clause-front : goal.returns-in_err-sync-clause-front
returns-in_err-sync-clause-front g c =
    on_err _ (front-all _ _ _ _ _ c.sync.ensures.unchanged c.in_ok-write_chunks.ensures.written)
