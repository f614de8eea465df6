-- What holds of a run whose writes were held back until it had ended.
use Rattle.std.proofs.Common.{◌≡◌, ◌≢◌, ◌<◌, ◌⊎◌, inl, inr, ℕ, zero, suc, List, [], length, Bool, false, nat_eq, sym, subst, ◌∙◌, true≢false, arith}
use Rattle.std.proofs.lemmas.Bool.{ne_eqb}
use Rattle.ed_session.specs.Drives.{Log, added}
use Rattle.whole.specs.Deeds.{Deed, GoesOn, NothingPut, refusals, run_log}
use Rattle.whole.specs.Paths.{written_paths}
use Rattle.whole.specs.Reads.{ReadsHeld}
use Rattle.whole.specs.LeftFiles.{OldOrNew}
use Rattle.whole.specs.Endings.{EndsSo, IsPlace}
use Rattle.whole.specs.declared.outcome.Outcome.{Outcome}
use Rattle.whole.specs.declared.outcome.Outcome.TheVariants as outcomes
use Rattle.ed_calls.specs.HeldBack.{HeldBack, status_held}

is-zero : (n : ℕ) → nat_eq n 0 ≡ false → n ≢ 0
is-zero zero e = absurd (true≢false e)
is-zero (suc n) e = λ is. omega (arith, is)

why : (log told : Log) (ended : Bool) (ran : ℕ) → told ≡ log → ended ≡ nat_eq ran 0 → (ended ≡ false) ⊎ (0 < refusals log) → (ran ≢ 0) ⊎ (0 < refusals told)
why log told ended ran same well (inl fault) = inl (is-zero ran (sym well ∙ fault))
why log told ended ran same well (inr some) = inr (subst (λ l. 0 < refusals l) (sym same) some)

not-zero : (n : ℕ) → n ≢ 0 → nat_eq n 0 ≡ false
not-zero n other = ne_eqb n 0 other

-- all that was asked of the files, it was asked in this run
pub held_of : (old told : Log) (of_run deeds : List Deed) (paths : List (List ℕ)) (o : Outcome) (ended : Bool) (ran status : ℕ) → old ≡ [] → told ≡ run_log of_run
    → NothingPut of_run → ReadsHeld of_run → GoesOn of_run deeds → EndsSo o deeds → paths ≡ written_paths deeds → IsPlace o (length paths) → ended ≡ nat_eq ran 0
    → (ended ≡ false → o ≡ outcomes.Discarded) → (0 < refusals (run_log of_run) → o ≡ outcomes.Discarded)
    → (o ≡ outcomes.Discarded → (ended ≡ false) ⊎ (0 < refusals (run_log of_run))) → OldOrNew deeds → status ≡ status_held ran o → HeldBack (added old told) ran status
held_of old told of_run deeds paths o ended ran status none same unput reads goes_on ends are within well at_a_fault at_a_refusal only_then moments is =
    subst (λ l. HeldBack (added l told) ran status) (sym none) (record {
      of_run = of_run;
      deeds = deeds;
      outcome = o;
      asked = sym same;
      unput = unput;
      reads = reads;
      goes_on = goes_on;
      ends = ends;
      within = subst (λ these. IsPlace o (length these)) are within;
      at_a_fault = λ other. at_a_fault (well ∙ not-zero ran other);
      at_a_refusal = λ some. at_a_refusal (subst (λ l. 0 < refusals l) same some);
      only_then = λ e. why (run_log of_run) told ended ran same well (only_then e);
      each_moment = moments;
      status_is = is;
    })
