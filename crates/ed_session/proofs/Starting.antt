-- How the answer to the read of the start file leads a session on.
use Rattle.std.proofs.Common.{◌≡◌, ℕ, List, [], ◌∷◌, ◌++◌, Bool, true, false, Option, Some, None, Err, refl, sym, ap, ◌∙◌, subst, inl, inr, append-nil}
use Rattle.std.specs.Prelude.{◌≢◌}
use Rattle.ed_base.specs.declared.fault.Fault.{Fault}
use Rattle.ed_base.specs.declared.fault.Fault.TheVariants as fault
use Rattle.ed_syntax.specs.declared.request.Answer.{Answer}
use Rattle.ed_syntax.specs.declared.request.Answer.TheVariants as answer
use Rattle.ed_syntax.specs.declared.request.Request.TheVariants as request
use Rattle.ed_syntax.specs.Commands.{Step}
use Rattle.ed_syntax.specs.meaning.Progress.{Present, Hears, Wrote, Heard, report, failing, count}
use Rattle.ed_syntax.specs.meaning.Runs.{Further, with_state, started}
use Rattle.ed_syntax.specs.meaning.States.{State, opening}
use Rattle.ed_session.specs.declared.phase.Phase.{Phase}
use Rattle.ed_session.specs.declared.phase.Phase.TheVariants as phases
use Rattle.ed_session.specs.Sessions.{SessionValue, RunningList, rest, go_on_prompted, path_of}
use Rattle.ed_session.specs.Calls.{Answers, Starts}
use Rattle.ed_session.specs.Insides.{counted, length_counted, EndsBy, KeepsPhase, state_loaded}
use Rattle.ed_session.proofs.Stepping.{started_opens, prompted_left_opens, hears_and_runs_out}
use Rattle.ed_session.proofs.Advancing.{no_end, count_is}

counted_none : (silent : Bool) → counted silent None ≡ []
counted_none true = refl
counted_none false = refl

-- the start file's answer was taken
pub starts_loaded : (old new : SessionValue) (path : List ℕ) (a : Answer) (s : State) → old.phase ≡ phases.Fresh (Some path) → old.pending ≡ [] → old.present.state ≡ opening
    → state_loaded path a ≡ Some s → new.phase ≡ phases.Between → new.pending ≡ counted old.present.silent (length_counted None a) → new.running_list ≡ old.running_list → new.steps ≡ old.steps → new.fault ≡ old.fault
    → new.present ≡ with_state s old.present → Answers old (request.Read path) a new
starts_loaded old new path (answer.Bytes bytes) s fresh handed opens is now pending list_same left fault present =
    let read : List ℕ = count old.present.silent (request.Read path) (answer.Bytes bytes) in
    inl (record {
      events = Heard old.present.help (request.Read path) ∷ Wrote old.present.help read ∷ [];
      same = λ answers. let e : state_loaded path (answer.Bytes bytes) ≡ Some s = is in rw (fresh, opens, now, list_same, left, fault, present) (let f = e in cc);
      handed_out = ap (λ p. p ++ (read ++ [])) handed ∙ append-nil read ∙ count_is old.present.silent (request.Read path) (answer.Bytes bytes) None refl ∙ sym pending;
      answered = refl;
      stays = no_end old new (rw fresh refl);
    })
starts_loaded old new path answer.Missing s fresh handed opens is now pending list_same left fault present = inl (record {
  events = Heard old.present.help (request.Read path) ∷ [];
  same = λ answers. rw (fresh, opens, now, list_same, left, fault, present) (let e = is in cc);
  handed_out = ap (λ p. p ++ []) handed ∙ sym (pending ∙ counted_none old.present.silent);
  answered = refl;
  stays = no_end old new (rw fresh refl);
})
starts_loaded old new path answer.Refused s fresh handed opens is now pending list_same left fault present = cc
starts_loaded old new path answer.Done s fresh handed opens is now pending list_same left fault present = cc

started_fails : (path : List ℕ) (a : Answer) (m : Present) (go : Further) (answers : List Answer) → state_loaded path a ≡ None → started path a m go answers ≡ failing m fault.File
started_fails path (answer.Bytes bytes) m go answers e = cc
started_fails path answer.Missing m go answers e = cc
started_fails path answer.Refused m go answers e = refl
started_fails path answer.Done m go answers e = refl

-- or it ended the run
pub starts_fails : (old new : SessionValue) (path : List ℕ) (a : Answer) (f : Fault) (at : Phase) (written : List ℕ) → old.phase ≡ phases.Fresh (Some path) → old.pending ≡ []
    → new.phase ≡ at → EndsBy old.present.help f at written → (f ≢ fault.Memory → (f ≡ fault.File) × (state_loaded path a ≡ None))
    → new.present.help ≡ old.present.help → new.pending ≡ written → Answers old (request.Read path) a new
starts_fails old new path a f at written fresh handed now ends is help none =
    let rep = ends.as_reported in
    let over = now ∙ ends.over in
    let hears : (answers : List Answer) → rest old (a ∷ answers) ≡ Hears old.present.help (request.Read path) (started path a old.present (go_on_prompted old.running_list old.steps old.fault) answers) = λ answers. rw fresh refl in
    elim rep.which [
      | inl e ↦ inl (record {
        events = Heard old.present.help (request.Read path) ∷ Wrote old.present.help (report old.present.help f) ∷ [];
        same = λ answers. hears answers ∙ rw (started_fails path a old.present (go_on_prompted old.running_list old.steps old.fault) answers (is e.0).1, over, e.1, help, (is e.0).0) refl;
        handed_out = rw (handed, none, rep.wrote, e.1) (append-nil (report old.present.help f));
        answered = refl;
        stays = no_end old new (rw fresh refl);
      })
      | inr e ↦ inr (record {
        running = rw fresh refl;
        over = over ∙ ap (λ g. phases.Over (Err g)) e;
        written = report old.present.help fault.Memory;
        cut = λ answers. rw (hears answers) (hears_and_runs_out old.present.help old.present.help (request.Read path) _ (started_opens path a old.present (go_on_prompted old.running_list old.steps old.fault) answers (λ t. prompted_left_opens old.running_list old.steps old.fault t answers)));
        handed_out = rw (handed, none, rep.wrote, e) refl;
      })
    ]

-- the path of a session that wants its start file
pub starts_with : (old : SessionValue) (path : List ℕ) (a : Answer) (new : SessionValue) → old.phase ≡ phases.Fresh (Some path) → Answers old (request.Read path) a new → Starts (path_of old.phase) old a new
starts_with old path a new e x = subst (λ p. Starts p old a new) (ap path_of (sym e)) x

-- a session that is fresh holds nothing
pub fresh_keeps : (p : Phase) (path : Option (List ℕ)) (writes : Option ℕ) (s : State) (t : Option RunningList) (xs : List Step) (pending : List ℕ) → p ≡ phases.Fresh path →
    KeepsPhase p writes s t xs pending → (s ≡ opening) × (pending ≡ [])
fresh_keeps p path writes s t xs pending e keeps = subst (λ q. KeepsPhase q writes s t xs pending) e keeps
