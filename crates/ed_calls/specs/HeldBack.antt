-- What is known of a run whose writes were held back until it had ended, beside all that is said of a run with this log (our choice: each file
-- is replaced whole, when the script has come to its end).
use Rattle.std.specs.Prelude.{ℕ, ◌≡◌, ◌≢◌, ◌<◌, ◌⊎◌, List, length, nat_eq, if◌then◌else◌}
use Rattle.ed_base.specs.Fault.{status_of}
use Rattle.ed_base.specs.declared.fault.Fault.TheVariants as fault
use Rattle.ed_session.specs.Drives.{Log}
use Rattle.whole.specs.Deeds.{Deed, GoesOn, NothingPut, refusals, run_log}
use Rattle.whole.specs.Paths.{written_paths}
use Rattle.whole.specs.Reads.{ReadsHeld}
use Rattle.whole.specs.LeftFiles.{OldOrNew}
use Rattle.whole.specs.Endings.{EndsSo, IsPlace}
use Rattle.whole.specs.declared.outcome.Outcome.{Outcome}
use Rattle.whole.specs.declared.outcome.Outcome.TheVariants as outcomes

-- the status of a run that came to one by itself, when its writes have ended so; one that isn't made ends it as a file does that is refused
abbrev pub status_held : (ran : ℕ) → Outcome → ℕ
status_held ran outcomes.Put = ran
status_held ran outcomes.Discarded = if nat_eq ran 0 then status_of fault.File else ran
status_held ran (outcomes.Unready place) = status_of fault.File
status_held ran (outcomes.Stopped place) = status_of fault.File

-- What the run asked was asked of files and of drafts beside them: in it no file was written, and a read of a path that it had written was of
-- its draft. Then its writes ended as it is told, with this status, and a place that is told is one of the paths that were written: all drafts
-- were discarded if the run came to a fault or a request of it was refused, and only then. At each moment each file is as it was, or as the run
-- leaves it that holds nothing back.
pub record HeldBack (log : Log) (ran status : ℕ) : Type 0 where
  pub of_run : List Deed
  pub deeds : List Deed
  pub outcome : Outcome
  pub asked : run_log of_run ≡ log
  pub unput : NothingPut of_run
  pub reads : ReadsHeld of_run
  pub goes_on : GoesOn of_run deeds
  pub ends : EndsSo outcome deeds
  pub within : IsPlace outcome (length (written_paths deeds))
  pub at_a_fault : ran ≢ 0 → outcome ≡ outcomes.Discarded
  pub at_a_refusal : 0 < refusals log → outcome ≡ outcomes.Discarded
  pub only_then : outcome ≡ outcomes.Discarded → (ran ≢ 0) ⊎ (0 < refusals log)
  pub each_moment : OldOrNew deeds
  pub status_is : status ≡ status_held ran outcome
