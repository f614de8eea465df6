-- What is known of a run that was rehearsed, beside all that is said of a run with this log (our choice: nothing is written).
use Rattle.std.specs.Prelude.{[]}
use Rattle.ed_session.specs.Drives.{Log}
use Rattle.rehearsal.specs.Rehearsals.{AllRead, AllWritesDone, Rehearses}

-- The real files were asked for reads alone. What the run asked was answered over that: each write was done, and each read shows what was
-- written last, or else what the real files have answered.
pub record Rehearsed (log : Log) : Type 0 where
  pub real : Log
  pub only_read : AllRead real
  pub done : AllWritesDone log
  pub rehearsed : Rehearses real [] log
