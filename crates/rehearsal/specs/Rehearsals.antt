-- Rehearsals of runs: what is asked of the real files, and what a run is answered (our choice: nothing is written).
use Rattle.std.specs.Prelude.{◌≡◌, List, [], ◌∷◌, ◌++◌, ℕ, Bool, true, false, All, Contains, Option, Some, None}
use Rattle.ed_syntax.specs.declared.request.Answer.{Answer}
use Rattle.ed_syntax.specs.declared.request.Answer.TheVariants as answer
use Rattle.ed_syntax.specs.declared.request.Request.{Request}
use Rattle.ed_syntax.specs.declared.request.Request.TheVariants as request
use Rattle.ed_session.specs.Drives.{Log, added}
use Rattle.ed_session.specs.KeptAnswers.{Files}
use Rattle.ed_session.specs.MemFiles.{file_at}

-- it asks for the bytes of a file
abbrev pub is_read : Request → Bool
is_read (request.Read path) = true
is_read (request.Write path bytes) = false

-- nothing was asked but reads
abbrev pub AllRead : Log → Type 0
AllRead log = All (λ entry. is_read entry.0 ≡ true) log

-- a log is as it was, or has the read of this path as its one more entry
pub data ReadsAtMost (path : List ℕ) (old new : Log) : Type 0 where
  none : new ≡ old → ReadsAtMost path old new
  one : (given : Answer) → new ≡ old ++ (request.Read path, given) ∷ [] → ReadsAtMost path old new

-- a write of these is done
abbrev pub done_if_write : Request → Answer → Bool
done_if_write (request.Read path) given = true
done_if_write (request.Write path bytes) answer.Done = true
done_if_write asked given = false

-- each write of a log is done
abbrev pub AllWritesDone : Log → Type 0
AllWritesDone log = All (λ entry. done_if_write entry.0 entry.1 ≡ true) log

-- the files after a request that is done, the latest first
abbrev pub files_after : Files → Request → Files
files_after files (request.Read path) = files
files_after files (request.Write path bytes) = (path, bytes) ∷ files

-- the files after all requests of a log
abbrev pub files_at_end : Files → Log → Files
files_at_end files [] = files
files_at_end files (entry ∷ log) = files_at_end (files_after files entry.0) log

-- the files that the writes of a log have made, the latest first
abbrev pub written : Log → Files
written log = files_at_end [] log

-- What a read shows: where the path was written, the bytes that were written last, and elsewhere what the real files have answered to a
-- read of it.
pub record Shown (real : Log) (made : Files) (path : List ℕ) (given : Answer) : Type 0 where
  pub as_written : (bytes : List ℕ) → file_at path made ≡ Some bytes → given ≡ answer.Bytes bytes
  pub as_real : file_at path made ≡ None → ∥ Contains real (request.Read path, given) ∥₁

-- what a request is answered in a rehearsal
abbrev pub Answered : Log → Files → Request → Answer → Type 0
Answered real made (request.Read path) given = Shown real made path given
Answered real made (request.Write path bytes) given = given ≡ answer.Done

-- Each request of a log is answered as in a rehearsal over real files with this log, where these files were written before.
abbrev pub Rehearses : Log → Files → Log → Type 0
Rehearses real made [] = Unit {0}
Rehearses real made (entry ∷ log) = Answered real made entry.0 entry.1 × Rehearses real (files_after made entry.0) log
