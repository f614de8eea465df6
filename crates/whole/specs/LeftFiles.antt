-- The files after calls, where a draft that is put gives its file the bytes that the draft was given last (our choice).
use Rattle.std.specs.Prelude.{ℕ, ◌≡◌, ◌⊎◌, true, List, [], ◌∷◌, take, Option, Some, None}
use Rattle.ed_session.specs.KeptAnswers.{Files}
use Rattle.ed_session.specs.MemFiles.{file_at}
use Rattle.rehearsal.specs.Rehearsals.{files_at_end}
use Rattle.whole.specs.Deeds.{Deed, run_log}

-- the drafts after a call, the latest first; one that was refused is never put, so it doesn't matter what it has
abbrev pub next_drafts : Files → Deed → Files
next_drafts drafts (Deed.Draft path bytes given) = (path, bytes) ∷ drafts
next_drafts drafts other = drafts

-- the files after a path was given these bytes, or after nothing where there are none
abbrev pub with_file : List ℕ → Option (List ℕ) → Files → Files
with_file path None files = files
with_file path (Some bytes) files = (path, bytes) ∷ files

-- the files after a call, with these drafts before it
abbrev pub next_files : (drafts files : Files) → Deed → Files
next_files drafts files (Deed.Put path true) = with_file path (file_at path drafts) files
next_files drafts files other = files

-- the files after all of these calls
abbrev pub left_files : (drafts files : Files) → List Deed → Files
left_files drafts files [] = files
left_files drafts files (deed ∷ deeds) = left_files (next_drafts drafts deed) (next_files drafts files deed) deeds

-- the files that calls leave, where no draft was there before
abbrev pub files_after_deeds : Files → List Deed → Files
files_after_deeds files deeds = left_files [] files deeds

-- the files that the run leaves whose requests these calls have answered, where its writes are not held back
abbrev pub files_of_run : Files → List Deed → Files
files_of_run files deeds = files_at_end files (run_log deeds)

-- these calls leave all files as they were
abbrev pub LeavesFiles : List Deed → Type 0
LeavesFiles deeds = (files : Files) → files_after_deeds files deeds ≡ files

-- these calls leave at each path what the run leaves whose writes are not held back
abbrev pub LeavesAsRun : List Deed → Type 0
LeavesAsRun deeds = (files : Files) (path : List ℕ) →
    file_at path (files_after_deeds files deeds) ≡ file_at path (files_of_run files deeds)

-- At each moment, after so many of these calls, each file is as it was before them or as the whole run leaves it.
abbrev pub OldOrNew : List Deed → Type 0
OldOrNew deeds =
    (files : Files) (count : ℕ) (path : List ℕ) →
    (file_at path (files_after_deeds files (take count deeds)) ≡ file_at path files)
    ⊎ (file_at path (files_after_deeds files (take count deeds)) ≡ file_at path (files_of_run files deeds))
