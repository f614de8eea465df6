-- Files in memory as an outside of runs: which file a path names, and what a call is answered (our tool for runs in memory).
use Rattle.std.specs.Prelude.{◌≡◌, ℕ, ◌+◌, Bool, true, false, List, [], ◌∷◌, length, nat_eq, Option, Some, None}
use Rattle.std.specs.Cmp.Lexicographic.{pointwise}
use Rattle.ed_syntax.specs.declared.request.Answer.{Answer}
use Rattle.ed_syntax.specs.declared.request.Answer.TheVariants as answer
use Rattle.ed_session.specs.declared.mem_files.MemFiles.{MemFiles}
use Rattle.ed_session.specs.Drives.{Log}
use Rattle.ed_session.specs.KeptAnswers.{Files, found, told}

-- the bytes of the file at a path: those that were added last
abbrev pub file_at : List ℕ → Files → Option (List ℕ)
file_at path [] = None
file_at path (file ∷ files) = elim (pointwise nat_eq file.0 path) [ true ↦ Some file.1 | false ↦ file_at path files ]

-- its files
abbrev pub files_of : MemFiles → Files
files_of m = m.files.items

-- what was asked and answered, the oldest first
abbrev pub log_of : MemFiles → Log
log_of m = told (files_of m) m.log.items

-- which of its calls it refuses, counted from 1; with 0 none
abbrev pub refused_call : MemFiles → ℕ
refused_call m = m.refused

-- how many calls it refused
abbrev pub refusals : MemFiles → ℕ
refusals m = m.failures

-- the next call is refused
abbrev pub refuses_now : MemFiles → Bool
refuses_now m = nat_eq (refused_call m) (length (log_of m) + 1)

-- what a read of a path is answered
abbrev pub read_answer : MemFiles → List ℕ → Answer
read_answer m path = elim (refuses_now m) [ true ↦ answer.Refused | false ↦ found (file_at path (files_of m)) ]

-- what a write is answered
abbrev pub write_answer : MemFiles → Answer
write_answer m = elim (refuses_now m) [ true ↦ answer.Refused | false ↦ answer.Done ]

-- the files after a write
abbrev pub files_written : MemFiles → List ℕ → List ℕ → Files
files_written m path bytes = elim (refuses_now m) [ true ↦ files_of m | false ↦ (path, bytes) ∷ files_of m ]

-- a call that is refused raises the count by 1
abbrev pub refusals_after : MemFiles → ℕ
refusals_after m = elim (refuses_now m) [ true ↦ refusals m + 1 | false ↦ refusals m ]

-- only the files differ
pub record ChangesFiles (old new : MemFiles) (files : Files) : Type 0 where
  pub now : files_of new ≡ files
  pub same_log : log_of new ≡ log_of old
  pub same_refused : refused_call new ≡ refused_call old
  pub same_refusals : refusals new ≡ refusals old

-- only the call that is refused differs
pub record ChangesRefused (old new : MemFiles) (k : ℕ) : Type 0 where
  pub now : refused_call new ≡ k
  pub same_files : files_of new ≡ files_of old
  pub same_log : log_of new ≡ log_of old
  pub same_refusals : refusals new ≡ refusals old
