-- What holds of a rehearsal from call to call.
use Rattle.std.specs.Prelude.{ℕ, ◌≡◌, ◌≤◌, Bool, true, false, List, [], ◌∷◌, length, Some, None}
use Rattle.std.proofs.Props.{props}
use Rattle.ed_syntax.specs.declared.request.Answer.{Answer}
use Rattle.ed_syntax.specs.declared.request.Answer.TheVariants as answer
use Rattle.ed_syntax.specs.declared.request.Request.{Request}
use Rattle.ed_syntax.specs.declared.request.Request.TheVariants as request
use Rattle.ed_session.specs.declared.mem_files.MemFiles.{MemFiles}
use Rattle.ed_session.specs.Drives.{Log}
use Rattle.ed_session.specs.KeptAnswers.{Files}
use Rattle.ed_session.specs.MemFiles.{file_at, files_of, log_of, refused_call, refusals}
use Rattle.rehearsal.specs.declared.held_write.HeldWrite.{HeldWrite}
use Rattle.rehearsal.specs.Rehearsals.{AllRead, Answered, Rehearses, Shown, files_after, written}
use Rattle.rehearsal.specs.Held.{writes_of}

-- a refusal, or else this answer
abbrev pub refused_or : Bool → Answer → Answer
refused_or true given = answer.Refused
refused_or false given = given

-- the number of a call that is refused, or 0
abbrev pub call_if : Bool → ℕ → ℕ
call_if true call = call
call_if false call = 0

-- A file that is held is what a read shows, and what was written is held.
pub record Holds (real : Log) (files made : Files) : Type 0 where
  pub shown : (path bytes : List ℕ) → file_at path files ≡ Some bytes → Shown real made path (answer.Bytes bytes)
  pub kept : (path : List ℕ) → file_at path files ≡ None → file_at path made ≡ None

-- a rehearsal, with the log of its real files
pub record IsRehearsal (real : Log) (files : MemFiles) (calls : ℕ) (held : List HeldWrite) : Type 0 where
  pub counted : calls ≡ length (log_of files)
  pub refuses_none : refused_call files ≡ 0
  pub few : refusals files ≤ length (log_of files)
  pub holds : Holds real (files_of files) (written (log_of files))
  pub rehearsed : Rehearses real [] (log_of files)
  pub only_read : AllRead real
  pub told : held ≡ writes_of (log_of files)

-- these facts have one proof at most
Answered-prop : (real : Log) (made : Files) (asked : Request) (given : Answer) → IsProp (Answered real made asked given)
Answered-prop real made (request.Read path) given = Prim.hlevel props
Answered-prop real made (request.Write path bytes) given = Prim.hlevel props

Rehearses-prop : (real : Log) (made : Files) (log : Log) → IsProp (Rehearses real made log)
Rehearses-prop real made [] = Prim.hlevel props
Rehearses-prop real made (entry ∷ log) = Prim.hlevel (props, Answered-prop real made entry.0 entry.1, Rehearses-prop real (files_after made entry.0) log)

pub IsRehearsal-prop : (real : Log) (files : MemFiles) (calls : ℕ) (held : List HeldWrite) → IsProp (IsRehearsal real files calls held)
IsRehearsal-prop real files calls held = Prim.hlevel (props, Rehearses-prop)
