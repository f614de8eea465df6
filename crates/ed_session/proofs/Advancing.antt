-- How a prompt and a fault lead a session on, and what is true of its view.
use Rattle.std.proofs.Common.{◌≡◌, ℕ, ◌<◌, List, [], ◌∷◌, ◌++◌, arith, Bool, true, false, length, Option, None, Result, Err, refl, sym, ap, ◌∙◌, subst, inl, inr, append-nil}
use Rattle.std.specs.Prelude.{◌≢◌}
use Rattle.ed_base.specs.declared.fault.Fault.{Fault}
use Rattle.ed_base.specs.declared.fault.Fault.TheVariants as fault
use Rattle.ed_syntax.specs.declared.options.Ending.{Ending}
use Rattle.ed_syntax.specs.declared.request.Answer.{Answer}
use Rattle.ed_syntax.specs.declared.request.Answer.TheVariants as answer
use Rattle.ed_syntax.specs.declared.request.Request.{Request}
use Rattle.ed_syntax.specs.declared.request.Request.TheVariants as request
use Rattle.ed_syntax.specs.meaning.Progress.{Stops, Ends, Wrote, report, failing, count}
use Rattle.ed_session.specs.declared.phase.Phase.{Phase}
use Rattle.ed_session.specs.declared.phase.Phase.TheVariants as phases
use Rattle.ed_session.specs.Sessions.{SessionValue, rest, is_over, is_waiting, is_started}
use Rattle.ed_session.specs.Calls.{GoesOn, BreaksOff, Leads, HandsOut, Awaits, Answers}
use Rattle.ed_session.specs.Insides.{bytes_of_write, counted, length_counted, EndsBy, ask_of_output, AdvancesOrGives}
use Rattle.ed_session.proofs.Stepping.{steps_prompted, rest_opens, runs_out}

-- a session that isn't over stays nowhere
pub no_end : (old new : SessionValue) → is_over old.phase ≡ false → (result : Result Ending Fault) →
    old.phase ≡ phases.Over result → new.phase ≡ phases.Over result
no_end old new h result e = absurd (let t : is_over old.phase ≡ true = rw e refl in cc)

pub report_some : (help : Bool) (f : Fault) → 0 < length (report help f)
report_some true f = omega arith
report_some false f = omega arith

-- what was written on the way, if it is anything
pub advances_by : (old new : SessionValue) (output : List ℕ) → GoesOn old [] output [] new → is_waiting new.phase ≡ false →
    is_started new.phase ≡ true → new.pending ≡ [] → new.told ≡ false → AdvancesOrGives old (ask_of_output output) new
advances_by old new [] goes idle begun handed untold =
    record { same = goes; idle = idle; started = begun; handed_out = handed; untold = untold }
advances_by old new (b ∷ bytes) goes idle begun handed untold =
    record { some = omega arith; leads = inl goes; idle = idle; untold = untold }

-- the prompt isn't written
pub prompt_skipped : (old new : SessionValue) → old.running_list ≡ None → new.running_list ≡ old.running_list →
    old.phase ≡ phases.Between → old.pending ≡ [] → old.present.prompting ≡ false → new.phase ≡ phases.Prompted →
    new.pending ≡ [] → new.present ≡ old.present → new.steps ≡ old.steps → new.fault ≡ old.fault → GoesOn old [] [] [] new
prompt_skipped old new outside list_same between handed off now pending present left fault = record {
  events = [];
  same = λ answers. rw (
    between,
    now,
    present,
    left,
    fault,
    list_same,
    outside,
    steps_prompted old.steps old.fault old.present answers,
    off,
  ) refl;
  handed_out = rw (handed, pending) refl;
  answered = refl;
  stays = no_end old new (rw between refl);
}

-- the prompt is written
pub prompt_written : (old new : SessionValue) (prompt : List ℕ) → old.running_list ≡ None →
    new.running_list ≡ old.running_list → old.phase ≡ phases.Between → old.pending ≡ [] → old.present.prompting ≡ true →
    prompt ≡ old.present.prompt → new.phase ≡ phases.Prompted → new.pending ≡ [] → new.present ≡ old.present →
    new.steps ≡ old.steps → new.fault ≡ old.fault → GoesOn old [] prompt [] new
prompt_written old new prompt outside list_same between handed on is now pending present left fault = record {
  events = Wrote old.present.help old.present.prompt ∷ [];
  same = λ answers. rw (between, now, present, left, fault, list_same, outside, steps_prompted old.steps old.fault old.present answers, on)
      refl;
  handed_out = rw (handed, pending, is) refl;
  answered = refl;
  stays = no_end old new (rw between refl);
}

-- the request that is awaited comes again
pub asks_again : (old new : SessionValue) → old.phase ≡ phases.Waiting → new.phase ≡ phases.Prompted →
    new.running_list ≡ old.running_list → new.steps ≡ old.steps → new.fault ≡ old.fault → new.present ≡ old.present →
    new.pending ≡ old.pending → GoesOn old [] [] [] new
asks_again old new waiting now list_same left fault present pending = record {
  events = [];
  same = λ answers. rw (waiting, now, list_same, left, fault, present) refl;
  handed_out = rw pending (append-nil old.pending);
  answered = refl;
  stays = no_end old new (rw waiting refl);
}

-- memory ran out before the next step was done
pub breaks_here : (old new : SessionValue) (output : List ℕ) → is_over old.phase ≡ false → old.pending ≡ [] →
    new.phase ≡ phases.Over (Err fault.Memory) → output ++ new.pending ≡ report old.present.help fault.Memory →
    BreaksOff old [] output [] new
breaks_here old new output running handed over whole = record {
  running = running;
  over = over;
  written = report old.present.help fault.Memory;
  cut = λ answers. runs_out old.present.help (rest old answers) (rest_opens old answers running);
  handed_out = rw handed (sym whole);
}

-- a fault ends the run, or memory runs out at its report
fails : (old new : SessionValue) (f : Fault) (output : List ℕ) → is_over old.phase ≡ false → old.pending ≡ [] →
    ((answers : List Answer) → rest old answers ≡ failing old.present f) → new.phase ≡ phases.Over (Err f) →
    new.present.help ≡ old.present.help → output ++ new.pending ≡ report old.present.help f → GoesOn old [] output [] new
fails old new f output running handed is over help whole = record {
  events = Wrote old.present.help (report old.present.help f) ∷ [];
  same = λ answers. is answers ∙ rw (over, help) refl;
  handed_out = rw handed (append-nil (report old.present.help f) ∙ sym whole);
  answered = refl;
  stays = no_end old new running;
}

pub fails_or_breaks : (old new : SessionValue) (f : Fault) (written output : List ℕ) → is_over old.phase ≡ false →
    old.pending ≡ [] → EndsBy old.present.help f new.phase written →
    (f ≢ fault.Memory → (answers : List Answer) → rest old answers ≡ failing old.present f) →
    new.present.help ≡ old.present.help → output ++ new.pending ≡ written → Leads old [] output [] new
fails_or_breaks old new f written output running handed ends is help whole =
    elim ends.as_reported.which [
      | inl e ↦ inl (fails old new f output running handed (is e.0) (rw (sym e.1) ends.over) help
          (whole ∙ ends.as_reported.wrote ∙ ap (report old.present.help) e.1))
      | inr e ↦ inr (breaks_here old new output running handed (rw (sym e) ends.over)
          (whole ∙ ends.as_reported.wrote ∙ ap (report old.present.help) e))
    ]

-- want of memory has its own report
pub ends_by_memory : (help : Bool) (at : Phase) (written : List ℕ) → EndsBy help fault.Memory at written →
    (at ≡ phases.Over (Err fault.Memory)) × (written ≡ report help fault.Memory)
ends_by_memory help at written ends =
    let is : ends.reported ≡ fault.Memory = elim ends.as_reported.which [ inl e ↦ absurd (e.0 refl) | inr e ↦ e ] in
    (ends.over ∙ ap (λ f. phases.Over (Err f)) is, ends.as_reported.wrote ∙ ap (report help) is)

-- the report is handed out
pub hands_out_report : (old new : SessionValue) (f : Fault) (written : List ℕ) → is_over old.phase ≡ false → old.pending ≡ [] →
    EndsBy old.present.help f new.phase written →
    (f ≢ fault.Memory → (answers : List Answer) → rest old answers ≡ failing old.present f) →
    new.present.help ≡ old.present.help → new.pending ≡ [] → new.told ≡ false → HandsOut old written new
hands_out_report old new f written running handed ends is help pending untold = record {
  some = rw ends.as_reported.wrote (report_some old.present.help ends.reported);
  leads = fails_or_breaks old new f written written running handed ends is help (rw pending (append-nil written));
  idle = ap is_waiting ends.over;
  untold = untold;
}

pub over_next : (v : SessionValue) (answers : List Answer) (f : Fault) → v.phase ≡ phases.Over (Err f) →
    rest v answers ≡ Stops v.present.help (Ends (Err f))
over_next v answers f at = rw at refl

-- the count is that of the bytes that were written or read
pub count_is : (silent : Bool) (r : Request) (a : Answer) (writes : Option ℕ) → writes ≡ bytes_of_write r →
    count silent r a ≡ counted silent (length_counted writes a)
count_is true r a writes h = refl
count_is false (request.Read path) (answer.Bytes bytes) writes h = rw h refl
count_is false (request.Read path) answer.Missing writes h = rw h refl
count_is false (request.Read path) answer.Refused writes h = rw h refl
count_is false (request.Read path) answer.Done writes h = rw h refl
count_is false (request.Write path bytes) a writes h = rw h refl

-- what is true of a session's view is true of the session
pub as_goes : (old v : SessionValue) (output : List ℕ) (new : SessionValue) → v ≡ old → GoesOn v [] output [] new →
    GoesOn old [] output [] new
as_goes old v output new same x = subst (λ u. GoesOn u [] output [] new) same x

pub as_awaits : (old v : SessionValue) (r : Request) (new : SessionValue) → v ≡ old → Awaits v r new → Awaits old r new
as_awaits old v r new same x = subst (λ u. Awaits u r new) same x

pub as_hands_out : (old v : SessionValue) (bytes : List ℕ) (new : SessionValue) → v ≡ old → HandsOut v bytes new →
    HandsOut old bytes new
as_hands_out old v bytes new same x = subst (λ u. HandsOut u bytes new) same x

pub as_answers : (old v : SessionValue) (r : Request) (a : Answer) (new : SessionValue) → v ≡ old → Answers v r a new →
    Answers old r a new
as_answers old v r a new same x = subst (λ u. Answers u r a new) same x
