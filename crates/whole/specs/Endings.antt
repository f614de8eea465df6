-- How a run ends whose writes were held back: what becomes of its drafts (our choice: all are put, or none as far as that can be).
use Rattle.std.specs.Prelude.{ℕ, ◌≡◌, ◌+◌, ◌<◌, List, [], ◌++◌, take, drop}
use Rattle.whole.specs.Deeds.{Deed, ready_paths, readying_paths, tried_paths, put_paths, discarded_paths, settled_paths}
use Rattle.whole.specs.Paths.{written_paths}
use Rattle.whole.specs.LeftFiles.{LeavesAsRun, LeavesFiles}
use Rattle.whole.specs.declared.outcome.Outcome.{Outcome}
use Rattle.whole.specs.declared.outcome.Outcome.TheVariants as outcome

-- There was a moment when the drafts of all paths that were written had been made ready, and none was put yet.
pub record AllReadyFirst (deeds : List Deed) : Type 0 where
  pub before : List Deed
  pub after : List Deed
  pub whole : deeds ≡ before ++ after
  pub ready : ready_paths before ≡ written_paths deeds
  pub unput : tried_paths before ≡ []

-- There was a moment when all was put that is put, and after it each path that was put was settled.
pub record SettledLast (deeds : List Deed) : Type 0 where
  pub before : List Deed
  pub after : List Deed
  pub whole : deeds ≡ before ++ after
  pub put : put_paths before ≡ put_paths deeds
  pub settled : settled_paths after ≡ put_paths deeds

-- Each path that was written was put once, in the order of the first writes, and has its last bytes.
pub record EachPutOnce (deeds : List Deed) : Type 0 where
  pub ready_first : AllReadyFirst deeds
  pub put : put_paths deeds ≡ written_paths deeds
  pub tried_once : tried_paths deeds ≡ written_paths deeds
  pub kept : discarded_paths deeds ≡ []
  pub settled : SettledLast deeds
  pub as_run : LeavesAsRun deeds

-- the draft of each path that was written was discarded once, and none was put
pub record AllDiscarded (deeds : List Deed) : Type 0 where
  pub discarded : discarded_paths deeds ≡ written_paths deeds
  pub unput : tried_paths deeds ≡ []
  pub same_files : LeavesFiles deeds

-- The drafts of the paths before this place were made ready, the one there was to be and couldn't, and all were discarded.
pub record IsUnreadyAt (place : ℕ) (deeds : List Deed) : Type 0 where
  pub discarded : AllDiscarded deeds
  pub ready : ready_paths deeds ≡ take place (written_paths deeds)
  pub asked_once : readying_paths deeds ≡ take (place + 1) (written_paths deeds)

-- The drafts of all paths were made ready; those before this place were put and then settled, the one there couldn't be put, and it and
-- those after it were discarded.
pub record StopsAt (place : ℕ) (deeds : List Deed) : Type 0 where
  pub ready_first : AllReadyFirst deeds
  pub put : put_paths deeds ≡ take place (written_paths deeds)
  pub tried_once : tried_paths deeds ≡ take (place + 1) (written_paths deeds)
  pub discarded : discarded_paths deeds ≡ drop place (written_paths deeds)
  pub settled : SettledLast deeds

-- the calls of a run that has ended so
abbrev pub EndsSo : Outcome → List Deed → Type 0
EndsSo outcome.Put deeds = EachPutOnce deeds
EndsSo outcome.Discarded deeds = AllDiscarded deeds
EndsSo (outcome.Unready place) deeds = IsUnreadyAt place deeds
EndsSo (outcome.Stopped place) deeds = StopsAt place deeds

-- the place that an ending tells, if it tells one, is one of so many
abbrev pub IsPlace : Outcome → ℕ → Type 0
IsPlace outcome.Put count = Unit {0}
IsPlace outcome.Discarded count = Unit {0}
IsPlace (outcome.Unready place) count = place < count
IsPlace (outcome.Stopped place) count = place < count
