-- What holds of the log of a run that was rehearsed.
use Rattle.std.proofs.Common.{◌≡◌, ◌≢◌, ℕ, Bool, [], sym, subst}
use Rattle.std.specs.Prelude.{IsTrue}
use Rattle.ed_session.specs.Drives.{Log, added}
use Rattle.rehearsal.specs.Rehearsals.{AllRead, AllWritesDone, Rehearses}
use Rattle.rehearsal.specs.Held.{writes_of}
use Rattle.ed_calls.specs.Rehearsed.{Rehearsed}
use Rattle.ed_main.specs.Program.{EndsRehearsed, status_ahead}

-- all that a rehearsal was asked, it was asked in this run
pub rehearsed_of : (real old told log : Log) → old ≡ [] → told ≡ log → AllRead real → AllWritesDone told → Rehearses real [] told → Rehearsed (added old log)
rehearsed_of real old told log none same only done shown =
    subst (λ o. Rehearsed (added o log)) (sym none) (subst Rehearsed same (record { real = real; only_read = only; done = done; rehearsed = shown }))

-- it ended by itself, or by a write that is hindered
pub ends_rehearsed : (real old told log : Log) (ran status : ℕ) (is_hindered : Bool) → old ≡ [] → told ≡ log → AllRead real
    → AllWritesDone told → Rehearses real [] told → (IsTrue is_hindered → writes_of told ≢ []) → status ≡ status_ahead ran is_hindered
    → EndsRehearsed (added old log) ran status
ends_rehearsed real old told log ran status is_hindered none same only done shown some is =
    record {
      is_hindered = is_hindered;
      some = λ hindered empty. some hindered (subst (λ o. writes_of o ≡ []) (sym same) (subst (λ o. writes_of (added o log) ≡ []) none empty));
      status_is = is;
      rehearsed = rehearsed_of real old told log none same only done shown;
    }
