-- How one call after another leads a session on.
use Rattle.std.proofs.Common.{◌≡◌, ℕ, ◌+◌, List, [], ◌∷◌, ◌++◌, Bool, true, false, length, Result, Err, refl, sym, ap, ◌∙◌, subst, inl, inr, append_assoc, append-nil}
use Rattle.ed_base.specs.declared.fault.Fault.{Fault}
use Rattle.ed_base.specs.declared.fault.Fault.TheVariants as fault
use Rattle.ed_syntax.specs.declared.options.Ending.{Ending}
use Rattle.ed_syntax.specs.declared.request.Answer.{Answer}
use Rattle.ed_syntax.specs.declared.request.Request.{Request}
use Rattle.ed_syntax.specs.meaning.Progress.{Progress, Stops, Writes, Hears, Stop, Ends, Event, Wrote, Heard, after, cut, RunsOut, output_of, asked_of, stop_of}
use Rattle.ed_syntax.proofs.meaning.CutLemmas.{cuts_after}
use Rattle.ed_session.specs.declared.phase.Phase.{Phase}
use Rattle.ed_session.specs.declared.phase.Phase.TheVariants as phases
use Rattle.ed_session.specs.declared.session.Ask.{Ask}
use Rattle.ed_session.specs.declared.session.Ask.TheVariants as ask
use Rattle.ed_session.specs.Sessions.{SessionValue, rest, is_over}
use Rattle.ed_session.specs.Calls.{written, heard, GoesOn, BreaksOff, Leads, Gives}

pub after_more : (x y : List Event) (p : Progress) → after (x ++ y) p ≡ after x (after y p)
after_more [] y p = refl
after_more (Wrote help output ∷ x) y p = ap (Writes help output) (after_more x y p)
after_more (Heard help r ∷ x) y p = ap (Hears help r) (after_more x y p)

written_more : (x y : List Event) → written (x ++ y) ≡ written x ++ written y
written_more [] y = refl
written_more (Wrote help output ∷ x) y = ap (λ w. output ++ w) (written_more x y) ∙ sym (append_assoc output (written x) (written y))
written_more (Heard help r ∷ x) y = written_more x y

heard_more : (x y : List Event) → heard (x ++ y) ≡ heard x ++ heard y
heard_more [] y = refl
heard_more (Wrote help output ∷ x) y = heard_more x y
heard_more (Heard help r ∷ x) y = ap (λ h. r ∷ h) (heard_more x y)

pub output_after : (x : List Event) (p : Progress) → output_of (after x p) ≡ written x ++ output_of p
output_after [] p = refl
output_after (Wrote help output ∷ x) p = ap (λ w. output ++ w) (output_after x p) ∙ sym (append_assoc output (written x) (output_of p))
output_after (Heard help r ∷ x) p = output_after x p

pub asked_after : (x : List Event) (p : Progress) → asked_of (after x p) ≡ heard x ++ asked_of p
asked_after [] p = refl
asked_after (Wrote help output ∷ x) p = asked_after x p
asked_after (Heard help r ∷ x) p = ap (λ h. r ∷ h) (asked_after x p)

pub stop_after : (x : List Event) (p : Progress) → stop_of (after x p) ≡ stop_of p
stop_after [] p = refl
stop_after (Wrote help output ∷ x) p = stop_after x p
stop_after (Heard help r ∷ x) p = stop_after x p

-- a run runs out of memory after some of its steps
runs_out_after : (events : List Event) (p : Progress) (output : List ℕ) (asked : List Request) → RunsOut p output asked
    → RunsOut (after events p) (written events ++ output) (heard events ++ asked)
runs_out_after events p output asked r =
    let c = cuts_after events r.steps r.bytes p in
    record {
      steps = length events + r.steps;
      bytes = r.bytes;
      lost = ap stop_of c ∙ stop_after events (cut r.steps r.bytes p) ∙ r.lost;
      written = ap (λ o. written events ++ o) r.written ∙ sym (output_after events (cut r.steps r.bytes p)) ∙ sym (ap output_of c);
      answered = ap (λ o. heard events ++ o) r.answered ∙ sym (asked_after events (cut r.steps r.bytes p)) ∙ sym (ap asked_of c);
    }

-- what was handed out twice, one piece after another
handed_more : (a b c o1 o2 w1 w2 : List ℕ) → a ++ w1 ≡ o1 ++ b → b ++ w2 ≡ o2 ++ c → a ++ (w1 ++ w2) ≡ (o1 ++ o2) ++ c
handed_more a b c o1 o2 w1 w2 e f =
    sym (append_assoc a w1 w2) ∙ ap (λ x. x ++ w2) e ∙ append_assoc o1 b w2 ∙ ap (λ x. o1 ++ x) f ∙ sym (append_assoc o1 o2 c)

goes_more : (a b c : SessionValue) (g1 g2 : List Answer) (o1 o2 : List ℕ) (r1 r2 : List Request) → GoesOn a g1 o1 r1 b →
    GoesOn b g2 o2 r2 c → GoesOn a (g1 ++ g2) (o1 ++ o2) (r1 ++ r2) c
goes_more a b c g1 g2 o1 o2 r1 r2 x y = record {
  events = x.events ++ y.events;
  same = λ answers.
      ap (rest a) (append_assoc g1 g2 answers) ∙ x.same (g2 ++ answers) ∙ ap (after x.events) (y.same answers)
      ∙ sym (after_more x.events y.events (rest c answers));
  handed_out = ap (λ w. a.pending ++ w) (written_more x.events y.events)
      ∙ handed_more a.pending b.pending c.pending o1 o2 (written x.events) (written y.events) x.handed_out y.handed_out;
  answered = heard_more x.events y.events ∙ ap (λ h. h ++ heard y.events) x.answered ∙ ap (λ h. r1 ++ h) y.answered;
  stays = λ result over. y.stays result (x.stays result over);
}

pub over_is : (p : Phase) (result : Result Ending Fault) → p ≡ phases.Over result → is_over p ≡ true
over_is p result e = rw e refl

not_over : (a b : SessionValue) (g : List Answer) (o : List ℕ) (r : List Request) → GoesOn a g o r b → is_over b.phase ≡ false →
    is_over a.phase ≡ false
not_over a b g o r x h = over_or (a.phase) (λ result e. absurd (let t = over_is b.phase result (x.stays result e) in cc))
  where
    over_or : (p : Phase) → ((result : Result Ending Fault) → p ≡ phases.Over result → is_over p ≡ false) → is_over p ≡ false
    over_or (phases.Fresh path) k = refl
    over_or phases.Between k = refl
    over_or phases.Prompted k = refl
    over_or phases.Waiting k = refl
    over_or (phases.Over result) k = k result refl

goes_and_breaks : (a b c : SessionValue) (g1 g2 : List Answer) (o1 o2 : List ℕ) (r1 r2 : List Request) → GoesOn a g1 o1 r1 b →
    BreaksOff b g2 o2 r2 c → BreaksOff a (g1 ++ g2) (o1 ++ o2) (r1 ++ r2) c
goes_and_breaks a b c g1 g2 o1 o2 r1 r2 x y = record {
  running = not_over a b g1 o1 r1 x y.running;
  over = y.over;
  written = written x.events ++ y.written;
  cut = λ answers.
      subst (λ p. RunsOut p (written x.events ++ y.written) (r1 ++ r2))
      (sym (ap (rest a) (append_assoc g1 g2 answers) ∙ x.same (g2 ++ answers)))
      (subst (λ q. RunsOut (after x.events (rest b (g2 ++ answers))) (written x.events ++ y.written) (q ++ r2)) x.answered
      (runs_out_after x.events (rest b (g2 ++ answers)) y.written r2 (y.cut answers)));
  handed_out = handed_more a.pending b.pending c.pending o1 o2 (written x.events) y.written x.handed_out y.handed_out;
}

-- after the end there are no steps
no_steps : (help mode : Bool) (s : Stop) (events : List Event) (p : Progress) → Stops help s ≡ after events p → events ≡ []
no_steps help mode s [] p e = refl
no_steps help mode s (Wrote h output ∷ events) p e = cc
no_steps help mode s (Heard h r ∷ events) p e = cc

pub rest_over : (v : SessionValue) (result : Result Ending Fault) (answers : List Answer) → v.phase ≡ phases.Over result →
    rest v answers ≡ Stops v.present.help (Ends result)
rest_over v result answers e = rw e refl

breaks_and_goes : (a b c : SessionValue) (g1 g2 : List Answer) (o1 o2 : List ℕ) (r1 r2 : List Request) → BreaksOff a g1 o1 r1 b →
    GoesOn b g2 o2 r2 c → BreaksOff a (g1 ++ g2) (o1 ++ o2) (r1 ++ r2) c
breaks_and_goes a b c g1 g2 o1 o2 r1 r2 x y =
    let none : y.events ≡ [] =
    no_steps b.present.help b.present.help _ y.events (rest c []) (sym (rest_over b (Err fault.Memory) (g2 ++ []) x.over) ∙ y.same []) in
    let silent : r2 ≡ [] = sym y.answered ∙ ap heard none in
    record {
      running = x.running;
      over = y.stays (Err fault.Memory) x.over;
      written = x.written;
      cut = λ answers.
          subst (λ p. RunsOut p x.written (r1 ++ r2)) (sym (ap (rest a) (append_assoc g1 g2 answers)))
          (subst (λ r. RunsOut (rest a (g1 ++ (g2 ++ answers))) x.written r) (sym (ap (λ r. r1 ++ r) silent ∙ append-nil r1))
          (x.cut (g2 ++ answers)));
      handed_out =
          ap (λ w. a.pending ++ w) (sym (append-nil x.written))
          ∙ handed_more a.pending b.pending c.pending o1 o2 x.written [] x.handed_out
          (ap (λ w. b.pending ++ w) (sym (ap written none)) ∙ y.handed_out);
    }

-- one call after another
pub leads_more : (a b c : SessionValue) (g1 g2 : List Answer) (o1 o2 : List ℕ) (r1 r2 : List Request) → Leads a g1 o1 r1 b →
    Leads b g2 o2 r2 c → Leads a (g1 ++ g2) (o1 ++ o2) (r1 ++ r2) c
leads_more a b c g1 g2 o1 o2 r1 r2 (inl x) (inl y) = inl (goes_more a b c g1 g2 o1 o2 r1 r2 x y)
leads_more a b c g1 g2 o1 o2 r1 r2 (inl x) (inr y) = inr (goes_and_breaks a b c g1 g2 o1 o2 r1 r2 x y)
leads_more a b c g1 g2 o1 o2 r1 r2 (inr x) (inl y) = inr (breaks_and_goes a b c g1 g2 o1 o2 r1 r2 x y)
leads_more a b c g1 g2 o1 o2 r1 r2 (inr x) (inr y) = absurd (let e = over_is b.phase (Err fault.Memory) x.over in let f = y.running in cc)

-- a call without an answer after another
pub leads_on : (a b c : SessionValue) (given : List Answer) (o1 o2 : List ℕ) (asked : List Request) → Leads a given o1 asked b →
    Leads b [] o2 [] c → Leads a given (o1 ++ o2) asked c
leads_on a b c given o1 o2 asked x y =
    subst (λ g. Leads a g (o1 ++ o2) asked c) (append-nil given)
    (subst (λ r. Leads a (given ++ []) (o1 ++ o2) r c) (append-nil asked) (leads_more a b c given [] o1 o2 asked [] x y))

-- one that goes on in silence before another
pub goes_on : (a b c : SessionValue) → GoesOn a [] [] [] b → GoesOn b [] [] [] c → GoesOn a [] [] [] c
goes_on a b c x y = goes_more a b c [] [] [] [] [] [] x y

-- what a step gives after a run that went on in silence
pub gives_after : (a b c : SessionValue) (asks : Ask) → GoesOn a [] [] [] b → Gives b asks c → Gives a asks c
gives_after a b c (ask.Output bytes) x y =
    record { some = y.some; leads = leads_more a b c [] [] [] bytes [] [] (inl x) y.leads; idle = y.idle; untold = y.untold }
gives_after a b c (ask.Read path) x y =
    record { same = goes_on a b c x y.same; waiting = y.waiting; handed_out = y.handed_out; asks = y.asks }
gives_after a b c (ask.Write path bytes) x y =
    record { same = goes_on a b c x y.same; waiting = y.waiting; handed_out = y.handed_out; asks = y.asks }
gives_after a b c (ask.Ended result) x y = record { same = goes_on a b c x y.same; over = y.over; handed_out = y.handed_out; told = y.told }
