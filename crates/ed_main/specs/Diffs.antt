-- What the diffs of a rehearsal show: what each file has that is written, and what it is to have (our choice: from the null device where there is
-- no file).
use Rattle.std.specs.Prelude.{◌≡◌, ◌⊎◌, ℕ, List, [], ◌∷◌, ◌++◌, Bool, codes, filter, not, Some, Contains}
use Rattle.std.specs.List.{AllZip, concat}
use Rattle.std.specs.Str.{bytes_eq}
use Rattle.ed_syntax.specs.declared.request.Answer.{Answer}
use Rattle.ed_syntax.specs.declared.request.Answer.TheVariants as answer
use Rattle.ed_syntax.specs.declared.request.Request.TheVariants as request
use Rattle.ed_session.specs.Drives.{Log}
use Rattle.ed_session.specs.KeptAnswers.{Files}
use Rattle.ed_session.specs.MemFiles.{file_at}
use Rattle.ed_session.specs.Sinks.{SinkChange, Took}
use Rattle.rehearsal.specs.declared.held_write.HeldWrite.{HeldWrite}
use Rattle.unified_diff.specs.UnifiedDiff.{IsUnifiedDiff}

-- the paths of these writes, each once, in the order of the first writes to them
abbrev pub first_paths : List HeldWrite → List (List ℕ)
first_paths [] = []
first_paths (write ∷ writes) = write.path ∷ filter (λ path. not (bytes_eq write.path path)) (first_paths writes)

-- The diff of the file at a path, by what a read of it was answered and the bytes that it is to have: nothing, where it can't be read.
abbrev pub IsChange : (colours : Bool) → (path : List ℕ) → (found : Answer) → (told diff : List ℕ) → Type 0
IsChange colours path (answer.Bytes old) told diff = IsUnifiedDiff colours path path old told diff
IsChange colours path answer.Missing told diff = IsUnifiedDiff colours (codes "/dev/null") path [] told diff
IsChange colours path answer.Refused told diff = diff ≡ []
IsChange colours path answer.Done told diff = diff ≡ []

-- What a read of a path was answered, by a log of files. What isn't read is refused.
abbrev pub IsFound : (path : List ℕ) → Log → (found : Answer) → Type 0
IsFound path real found = Contains real (request.Read path, found) ⊎ (found ≡ answer.Refused)

-- a log goes on after an older one
abbrev pub GoesOn : (old new : Log) → Type 0
GoesOn old new = (more : Log) × (new ≡ old ++ more)

-- The diff of the file at a path shows what it has, by a log of files, and what was written there last.
pub record ShowsFile (colours : Bool) (made : Files) (real : Log) (path diff : List ℕ) : Type 0 where
  pub found : Answer
  pub is_found : IsFound path real found
  pub shown : (told : List ℕ) → file_at path made ≡ Some told → IsChange colours path found told diff

-- A sink took the diffs of the files at these paths, in their order.
pub record ShowsFiles (colours : Bool) (made : Files) (real : Log) (paths : List (List ℕ)) (sink : SinkChange) : Type 0 where
  pub diffs : List (List ℕ)
  pub each : AllZip (ShowsFile colours made real) paths diffs
  pub took : Took sink (concat diffs)
