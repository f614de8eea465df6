-- A log of a rehearsal with one more entry.
use Rattle.std.proofs.Common.{◌≡◌, ℕ, List, [], ◌∷◌, ◌++◌, true, refl, ap, ◌∙◌, sym, append-nil, append_assoc, arith, zero, suc}
use Rattle.std.specs.Prelude.{All}
use Rattle.ed_syntax.specs.declared.request.Answer.{Answer}
use Rattle.ed_syntax.specs.declared.request.Answer.TheVariants as answer
use Rattle.ed_syntax.specs.declared.request.Request.{Request}
use Rattle.ed_syntax.specs.declared.request.Request.TheVariants as request
use Rattle.ed_session.specs.Drives.{Log}
use Rattle.ed_session.specs.KeptAnswers.{Files}
use Rattle.rehearsal.specs.Rehearsals.{AllWritesDone, Answered, Rehearses, done_if_write, files_after, files_at_end}
use Rattle.rehearsal.specs.Held.{told_of, writes_of}

pub files-append : (made : Files) (log : Log) (asked : Request) (given : Answer) →
    files_at_end made (log ++ (asked, given) ∷ []) ≡ files_after (files_at_end made log) asked
files-append made [] asked given = refl
files-append made (entry ∷ log) asked given = files-append (files_after made entry.0) log asked given

pub rehearses-append : (real : Log) (made : Files) (log : Log) (asked : Request) (given : Answer) → Rehearses real made log →
    Answered real (files_at_end made log) asked given → Rehearses real made (log ++ (asked, given) ∷ [])
rehearses-append real made [] asked given r a = (a, tt)
rehearses-append real made (entry ∷ log) asked given r a = (r.0, rehearses-append real (files_after made entry.0) log asked given r.1 a)

pub writes-append : (log : Log) (asked : Request) (given : Answer) → writes_of (log ++ (asked, given) ∷ []) ≡ writes_of log ++ told_of asked
writes-append [] asked given = append-nil (told_of asked)
writes-append (entry ∷ log) asked given =
    ap (λ rest. told_of entry.0 ++ rest) (writes-append log asked given) ∙ sym (append_assoc (told_of entry.0) (writes_of log) (told_of asked))

answered-done : (real : Log) (made : Files) (asked : Request) (given : Answer) → Answered real made asked given → done_if_write asked given ≡ true
answered-done real made (request.Read path) given a = refl
answered-done real made (request.Write path bytes) given a = rw a refl

-- in a rehearsal each write is done
pub all-done : (real : Log) (made : Files) (log : Log) → Rehearses real made log → AllWritesDone log
all-done real made [] r k d below = absurd (omega arith)
all-done real made (entry ∷ log) r zero d below = answered-done real made entry.0 entry.1 r.0
all-done real made (entry ∷ log) r (suc k) d below = all-done real (files_after made entry.0) log r.1 k d (omega arith)
