-- How the next command leads a session on: one that is done, one that asks and is answered, and one that fails.
use Rattle.std.proofs.Common.{◌≡◌, ℕ, List, [], ◌∷◌, ◌++◌, Bool, true, false, Option, Some, None, Result, Ok, Err, refl, sym, ap, ◌∙◌, subst, ◌⊎◌, inl, inr, append-nil, drop}
use Rattle.std.specs.Prelude.{◌≢◌, IsOkAnd, IfSome, is_some}
use Rattle.ed_base.specs.declared.fault.Fault.{Fault}
use Rattle.ed_base.specs.declared.fault.Fault.TheVariants as fault
use Rattle.ed_syntax.specs.declared.request.Answer.{Answer}
use Rattle.ed_syntax.specs.declared.request.Request.{Request}
use Rattle.ed_syntax.specs.declared.request.Request.TheVariants as request
use Rattle.ed_syntax.specs.meaning.Applied.{command}
use Rattle.ed_syntax.specs.Commands as ed
use Rattle.ed_syntax.specs.Commands.{Command, Step, Verb}
use Rattle.ed_syntax.specs.meaning.Effects.{Outcome, Effect, Makes, Asks}
use Rattle.ed_syntax.specs.meaning.Progress.{Present, Stops, Writes, Hears, Ends, Waits, Wrote, Heard, report, failing, count, stop_of, RunsOut}
use Rattle.ed_syntax.specs.meaning.Runs.{Further, with_state, reached, turned, one, asking, answered, listed, turns, steps, unprompted}
use Rattle.ed_syntax.specs.meaning.States.{State}
use Rattle.ed_commands.specs.declared.editor.Reply.TheVariants as reply
use Rattle.ed_commands.specs.Editors.{Replies}
use Rattle.ed_session.specs.declared.modes.Modes.{Modes}
use Rattle.ed_session.specs.declared.phase.Phase.{Phase}
use Rattle.ed_session.specs.declared.phase.Phase.TheVariants as phases
use Rattle.ed_session.specs.Sessions.{SessionValue, RunningList, rest, rest_at, go_on_prompted, go_on_unprompted, awaited, request_of, is_over}
use Rattle.ed_session.specs.Agendas.{first_listed, first_command, next_command, running_after, steps_after}
use Rattle.ed_session.specs.Calls.{GoesOn, Awaits, Gives, Answers}
use Rattle.ed_session.specs.Insides.{holding, bytes_of_write, counted, length_counted, is_alone, help_after, prompting_after, EndsBy, ask_of_request, IsNext, AsksFor, KeepsPhase, goes_unprompted}
use Rattle.ed_session.proofs.Stepping.{step_one, answered_opens, hears_and_runs_out}
use Rattle.ed_session.proofs.Advancing.{no_end, over_next, count_is}

-- what a reply to a command tells of its effect
pub done_is : (x : Result Effect Fault) (s t : State) (output : List ℕ) → IsOkAnd x (Replies s t (reply.Done output)) → (o : Outcome) × (x ≡ Ok (Makes o)) × (t ≡ o.state) × (output ≡ o.output)
done_is (Ok (Makes o)) s t output h = (o, refl, h.0, h.1)
done_is (Ok (Asks r)) s t output h = absurd h
done_is (Err f) s t output h = absurd h

pub wants_is : (x : Result Effect Fault) (s t : State) (r : Request) → IsOkAnd x (Replies s t (reply.Wants r)) → (x ≡ Ok (Asks r)) × (t ≡ s)
wants_is (Ok (Makes o)) s t r h = absurd h
wants_is (Ok (Asks q)) s t r h = (ap (λ a. Ok (Asks a)) (sym h.0), h.1)
wants_is (Err f) s t r h = absurd h

-- one that asks again does so because the answer doesn't fit its request
pub asks_more : (x : Result Effect Fault) (s t : State) (r : Request) (f : Fault) → IsOkAnd x (Replies s t (reply.Wants r)) → f ≡ fault.File
    → (x ≡ Err f) ⊎ ((f ≡ fault.File) × ((q : Request) × (x ≡ Ok (Asks q))))
asks_more x s t r f h is = inr (is, (r, (wants_is x s t r h).0))

pub turned_is : (verb : Verb) (m : Present) → turned verb m ≡ record m { prompting = prompting_after verb m.prompting; help = help_after verb m.help }
turned_is ed.HelpMode m = refl
turned_is ed.PromptMode m = refl
turned_is verb m = refl

-- what a session holds after a command that is done
pub turned_present : (verb : Verb) (silent : Bool) (old s t : State) (m n : Modes) (prompt : List ℕ) → t ≡ s → n.prompting ≡ prompting_after verb m.prompting → n.help ≡ help_after verb m.help
    → holding silent t n prompt ≡ turned verb (with_state s (holding silent old m prompt))
turned_present verb silent old s t m n prompt e f h = rw (turned_is verb (with_state s (holding silent old m prompt)), e, f, h) refl

-- what is left after the next command
abbrev later : Option RunningList → List Step → Option ℕ → Further
later t xs bad = go_on_prompted (running_after t) (steps_after t xs) bad

-- the next command of a list
listed_next : (left : List Command) (c : Command) (m : Present) (go : Further) (answers : List Answer) → first_listed left ≡ Some c
    → listed left m go answers ≡ one c m (λ t. listed (drop 1 left) t go) answers
listed_next [] c m go answers e = cc
listed_next (d ∷ left) c m go answers e = let same : d ≡ c = cc in rw same refl

-- the next step, which is a command alone
step_next : (xs : List Step) (c : Command) (bad : Option ℕ) (m : Present) (answers : List Answer) → first_command xs ≡ Some c → is_alone c.verb ≡ true
    → unprompted xs bad m answers ≡ one c m (steps (drop 1 xs) bad) answers
step_next [] c bad m answers e alone = cc
step_next (x ∷ xs) c bad m answers e alone =
    let same : x.command ≡ c = cc in step_one x m (steps xs bad) answers (rw same alone) ∙ ap (λ d. one d m (steps xs bad) answers) same

command_next : (t : Option RunningList) (xs : List Step) (bad : Option ℕ) (c : Command) (m : Present) (answers : List Answer) → IsNext t xs c
    → go_on_unprompted t xs bad m answers ≡ one c m (later t xs bad) answers
command_next None xs bad c m answers next = step_next xs c bad m answers next.comes (next.alone refl)
command_next (Some t) xs bad c m answers next = listed_next t.left c m (λ n. turns t.lines t.list n (steps xs bad)) answers next.comes

-- the next command comes before any prompt
unprompted_next : (v : SessionValue) (p : Phase) (t : Option RunningList) (answers : List Answer) → goes_unprompted p t ≡ true → v.running_list ≡ t
    → rest_at p v answers ≡ go_on_unprompted v.running_list v.steps v.fault v.present answers
unprompted_next v (phases.Fresh path) t answers goes e = cc
unprompted_next v phases.Between None answers goes e = cc
unprompted_next v phases.Between (Some t) answers goes e = rw e refl
unprompted_next v phases.Prompted t answers goes e = refl
unprompted_next v phases.Waiting t answers goes e = refl
unprompted_next v (phases.Over result) t answers goes e = cc

-- what comes next is this command, and what is left after it
comes_next : (v : SessionValue) (c : Command) → goes_unprompted v.phase v.running_list ≡ true → IsNext v.running_list v.steps c
    → (answers : List Answer) → rest v answers ≡ one c v.present (later v.running_list v.steps v.fault) answers
comes_next v c goes next answers = unprompted_next v v.phase v.running_list answers goes refl ∙ command_next v.running_list v.steps v.fault c v.present answers next

-- so goes a run that isn't over
pub goes_running : (p : Phase) (t : Option RunningList) → goes_unprompted p t ≡ true → is_over p ≡ false
goes_running (phases.Fresh path) t goes = refl
goes_running phases.Between t goes = refl
goes_running phases.Prompted t goes = refl
goes_running phases.Waiting t goes = refl
goes_running (phases.Over result) t goes = cc

-- there is one next command
is_next : (t : Option RunningList) (xs : List Step) (c d : Command) → IsNext t xs c → next_command t xs ≡ Some d → IsNext t xs d
is_next t xs c d next e = let is = next.comes in let same : c ≡ d = cc in subst (IsNext t xs) same next

-- the next command was done
comes_later : (v new : SessionValue) (m : Present) → new.phase ≡ phases.Between → new.running_list ≡ running_after v.running_list → new.steps ≡ steps_after v.running_list v.steps → new.fault ≡ v.fault
    → new.present ≡ m → (answers : List Answer) → rest new answers ≡ later v.running_list v.steps v.fault m answers
comes_later v new m now list_same left fault present answers = rw (now, list_same, left, fault, present) refl

-- it is awaited
comes_still : (v new : SessionValue) → goes_unprompted v.phase v.running_list ≡ true → new.phase ≡ phases.Waiting → new.running_list ≡ v.running_list → new.steps ≡ v.steps → new.fault ≡ v.fault
    → new.present ≡ v.present → (answers : List Answer) → rest new answers ≡ rest v answers
comes_still v new goes now list_same left fault present answers = rw (now, list_same, left, fault, present) (sym (unprompted_next v v.phase v.running_list answers goes refl))

asking_makes : (m : Present) (e : Result Effect Fault) (o : Outcome) (again : Answer → Result Effect Fault) (go : Further) (answers : List Answer) → e ≡ Ok (Makes o)
    → asking m e again go answers ≡ Writes m.help o.output (go (reached o m) answers)
asking_makes m e o again go answers is = rw is refl

asking_fails : (m : Present) (e : Result Effect Fault) (f : Fault) (again : Answer → Result Effect Fault) (go : Further) (answers : List Answer) → e ≡ Err f → asking m e again go answers ≡ failing m f
asking_fails m e f again go answers is = rw is refl

asking_waits : (m : Present) (e : Result Effect Fault) (r : Request) (again : Answer → Result Effect Fault) (go : Further) → e ≡ Ok (Asks r) → asking m e again go [] ≡ Stops m.help (Waits r)
asking_waits m e r again go is = rw is refl

asking_hears : (m : Present) (e : Result Effect Fault) (r : Request) (again : Answer → Result Effect Fault) (go : Further) (a : Answer) (answers : List Answer) → e ≡ Ok (Asks r)
    → asking m e again go (a ∷ answers) ≡ Hears m.help r (answered m (count m.silent r a) (again a) go answers)
asking_hears m e r again go a answers is = rw is refl

answered_makes : (m : Present) (counted : List ℕ) (e : Result Effect Fault) (o : Outcome) (go : Further) (answers : List Answer) → e ≡ Ok (Makes o)
    → answered m counted e go answers ≡ Writes m.help (o.output ++ counted) (go (reached o m) answers)
answered_makes m counted e o go answers is = rw is refl

answered_fails : (m : Present) (counted : List ℕ) (e : Result Effect Fault) (f : Fault) (go : Further) (answers : List Answer) → e ≡ Err f → answered m counted e go answers ≡ failing m f
answered_fails m counted e f go answers is = rw is refl

answered_asks : (m : Present) (counted : List ℕ) (e : Result Effect Fault) (r : Request) (go : Further) (answers : List Answer) → e ≡ Ok (Asks r) → answered m counted e go answers ≡ failing m fault.File
answered_asks m counted e r go answers is = rw is refl

-- what a session comes to next is this command, and then something
module _ (v : SessionValue) (c : Command) (go : Further) (at : (answers : List Answer) → rest v answers ≡ one c v.present go answers) (pending : v.pending ≡ []) (running : is_over v.phase ≡ false) where
  -- it is done
  pub goes_done : (new : SessionValue) (o : Outcome) (output : List ℕ) → command v.present.state c None ≡ Ok (Makes o) → output ≡ o.output
      → ((answers : List Answer) → rest new answers ≡ go (turned c.verb (with_state o.state v.present)) answers) → new.pending ≡ [] → GoesOn v [] output [] new
  goes_done new o output done is then none = record {
    events = Wrote v.present.help o.output ∷ [];
    same = λ answers. at answers ∙ asking_makes v.present _ o _ (λ t. go (turned c.verb t)) answers done ∙ ap (Writes v.present.help o.output) (sym (then answers));
    handed_out = rw (pending, none, is) refl;
    answered = refl;
    stays = no_end v new running;
  }

  -- it fails
  pub next_fails : (f : Fault) → command v.present.state c None ≡ Err f → (answers : List Answer) → rest v answers ≡ failing v.present f
  next_fails f is answers = at answers ∙ asking_fails v.present _ f _ (λ t. go (turned c.verb t)) answers is

  -- it asks
  goes_asking : (new : SessionValue) (r : Request) → command v.present.state c None ≡ Ok (Asks r) → new.phase ≡ phases.Waiting → ((answers : List Answer) → rest new answers ≡ rest v answers)
      → new.pending ≡ [] → new.present ≡ v.present → Awaits v r new
  goes_asking new r asks now same none present = record {
    same = record {
      events = [];
      same = λ answers. sym (same answers);
      handed_out = rw (pending, none) refl;
      answered = refl;
      stays = no_end v new running;
    };
    waiting = now;
    handed_out = none;
    asks = same [] ∙ at [] ∙ asking_waits v.present _ r _ (λ t. go (turned c.verb t)) asks ∙ ap (λ m. Stops m.help (Waits r)) (sym present);
  }

  module _ (r : Request) (asks : command v.present.state c None ≡ Ok (Asks r)) where
    -- what is awaited
    awaits_it : awaited v ≡ Some r
    awaits_it = ap (λ p. request_of (stop_of p)) (at [] ∙ asking_waits v.present _ r _ (λ t. go (turned c.verb t)) asks)

    hears : (a : Answer) (answers : List Answer) → rest v (a ∷ answers)
        ≡ Hears v.present.help r (answered v.present (count v.present.silent r a) (command v.present.state c (Some a)) (λ t. go (turned c.verb t)) answers)
    hears a answers = at (a ∷ answers) ∙ asking_hears v.present _ r (λ b. command v.present.state c (Some b)) (λ t. go (turned c.verb t)) a answers asks

    -- the answer was taken
    answers_done : (a : Answer) (new : SessionValue) (o : Outcome) (output : List ℕ) (writes : Option ℕ) → writes ≡ bytes_of_write r
        → command v.present.state c (Some a) ≡ Ok (Makes o) → output ≡ o.output
        → ((answers : List Answer) → rest new answers ≡ go (turned c.verb (with_state o.state v.present)) answers)
        → new.pending ≡ output ++ counted v.present.silent (length_counted writes a) → Answers v r a new
    answers_done a new o output writes counts done is then none =
        let all : List ℕ = o.output ++ count v.present.silent r a in
        inl (record {
          events = Heard v.present.help r ∷ Wrote v.present.help all ∷ [];
          same = λ answers.
              hears a answers
              ∙ ap (Hears v.present.help r) (answered_makes v.present _ _ o (λ t. go (turned c.verb t)) answers done ∙ ap (Writes v.present.help all) (sym (then answers)));
          handed_out = ap (λ p. p ++ (all ++ [])) pending ∙ append-nil all ∙ ap (λ n. o.output ++ n) (count_is v.present.silent r a writes counts)
              ∙ ap (λ w. w ++ counted v.present.silent (length_counted writes a)) (sym is) ∙ sym none;
          answered = refl;
          stays = no_end v new running;
        })

    -- or it ended the run
    answers_fail : (a : Answer) (new : SessionValue) (f : Fault) (w : List ℕ) → EndsBy v.present.help f new.phase w
        → (f ≢ fault.Memory → (command v.present.state c (Some a) ≡ Err f) ⊎ ((f ≡ fault.File) × ((q : Request) × (command v.present.state c (Some a) ≡ Ok (Asks q)))))
        → new.present.help ≡ v.present.help → new.pending ≡ w → Answers v r a new
    answers_fail a new f w ends is help none =
        let rep = ends.as_reported in
        let over = ends.over in
        let end : (answers : List Answer) → rest new answers ≡ Stops v.present.help (Ends (Err ends.reported)) = λ answers. over_next new answers ends.reported over ∙ ap (λ h. Stops h (Ends (Err ends.reported))) help in
        elim rep.which [
          | inl e ↦
              let failed : (answers : List Answer) → answered v.present (count v.present.silent r a) (command v.present.state c (Some a)) (λ t. go (turned c.verb t)) answers ≡ failing v.present f
              = λ answers. elim (is e.0) [
                | inl y ↦ answered_fails v.present _ _ f _ answers y
                | inr y ↦ answered_asks v.present _ _ y.1.0 _ answers y.1.1 ∙ ap (failing v.present) (sym y.0)
              ] in
              inl (record {
                events = Heard v.present.help r ∷ Wrote v.present.help (report v.present.help f) ∷ [];
                same = λ answers. hears a answers ∙ ap (Hears v.present.help r) (failed answers
                    ∙ ap (Writes v.present.help (report v.present.help f)) (ap (λ g. Stops v.present.help (Ends (Err g))) (sym e.1) ∙ sym (end answers)));
                handed_out = ap (λ p. p ++ (report v.present.help f ++ [])) pending ∙ append-nil (report v.present.help f) ∙ sym (none ∙ rep.wrote ∙ ap (report v.present.help) e.1);
                answered = refl;
                stays = no_end v new running;
              })
          | inr e ↦ inr (record {
            running = running;
            over = over ∙ ap (λ g. phases.Over (Err g)) e;
            written = report v.present.help fault.Memory;
            cut = λ answers. subst (λ p. RunsOut p (report v.present.help fault.Memory) (r ∷ [])) (sym (hears a answers))
                (hears_and_runs_out v.present.help v.present.help r _ (answered_opens v.present _ (command v.present.state c (Some a)) (λ t. go (turned c.verb t)) answers));
            handed_out = ap (λ p. p ++ report v.present.help fault.Memory) pending ∙ sym (none ∙ rep.wrote ∙ ap (report v.present.help) e);
          })
        ]

-- the next command, which comes before any prompt
module _ (v : SessionValue) (c : Command) (goes : goes_unprompted v.phase v.running_list ≡ true) (next : IsNext v.running_list v.steps c) (pending : v.pending ≡ []) where
  abbrev go : Further
  go = later v.running_list v.steps v.fault

  at : (answers : List Answer) → rest v answers ≡ one c v.present go answers
  at answers = comes_next v c goes next answers

  running : is_over v.phase ≡ false
  running = goes_running v.phase v.running_list goes

  pub passes_done : (new : SessionValue) (o : Outcome) (output : List ℕ) → command v.present.state c None ≡ Ok (Makes o) → output ≡ o.output → new.phase ≡ phases.Between
      → new.running_list ≡ running_after v.running_list → new.steps ≡ steps_after v.running_list v.steps → new.fault ≡ v.fault → new.present ≡ turned c.verb (with_state o.state v.present) → new.pending ≡ []
      → GoesOn v [] output [] new
  passes_done new o output done is now list_same left fault present none =
      goes_done v c go at pending running new o output done is (comes_later v new (turned c.verb (with_state o.state v.present)) now list_same left fault present) none

  pub passes_failing : (f : Fault) → command v.present.state c None ≡ Err f → (answers : List Answer) → rest v answers ≡ failing v.present f
  passes_failing f is = next_fails v c go at pending running f is

  pub passes_asking : (new : SessionValue) (r : Request) → command v.present.state c None ≡ Ok (Asks r) → new.phase ≡ phases.Waiting
      → new.running_list ≡ v.running_list → new.steps ≡ v.steps → new.fault ≡ v.fault → new.present ≡ v.present → new.pending ≡ [] → Awaits v r new
  passes_asking new r asks now list_same left fault present none = goes_asking v c go at pending running new r asks now (comes_still v new goes now list_same left fault present) none present

  module _ (r : Request) (asks : command v.present.state c None ≡ Ok (Asks r)) where
    passes_awaited : awaited v ≡ Some r
    passes_awaited = awaits_it v c go at pending running r asks

    passes_answered : (a : Answer) (new : SessionValue) (o : Outcome) (output : List ℕ) (writes : Option ℕ) → writes ≡ bytes_of_write r → command v.present.state c (Some a) ≡ Ok (Makes o) → output ≡ o.output
        → new.phase ≡ phases.Between → new.running_list ≡ running_after v.running_list → new.steps ≡ steps_after v.running_list v.steps → new.fault ≡ v.fault → new.present ≡ turned c.verb (with_state o.state v.present)
        → new.pending ≡ output ++ counted v.present.silent (length_counted writes a) → Answers v r a new
    passes_answered a new o output writes counts done is now list_same left fault present none =
        answers_done v c go at pending running r asks a new o output writes counts done is (comes_later v new (turned c.verb (with_state o.state v.present)) now list_same left fault present) none

    passes_refused : (a : Answer) (new : SessionValue) (f : Fault) (w : List ℕ) → EndsBy v.present.help f new.phase w
        → (f ≢ fault.Memory → (command v.present.state c (Some a) ≡ Err f) ⊎ ((f ≡ fault.File) × ((q : Request) × (command v.present.state c (Some a) ≡ Ok (Asks q)))))
        → new.present.help ≡ v.present.help → new.pending ≡ w → Answers v r a new
    passes_refused a new f w ends is help none = answers_fail v c go at pending running r asks a new f w ends is help none

-- a session whose next command comes before any prompt, by what it holds
pub record Coming (old v : SessionValue) (x : Command) : Type 0 where
  pub same : v ≡ old
  pub goes : goes_unprompted v.phase v.running_list ≡ true
  pub next : IsNext v.running_list v.steps x
  pub none : v.pending ≡ []

pub coming : (old v : SessionValue) (x : Command) → v ≡ old → goes_unprompted old.phase old.running_list ≡ true → old.pending ≡ [] → ((d : Command) × IsNext old.running_list old.steps d) →
    next_command v.running_list v.steps ≡ Some x → Coming old v x
coming old v x same goes none next is = record {
  same = same;
  goes = ap (λ u. goes_unprompted u.phase u.running_list) same ∙ goes;
  next = is_next v.running_list v.steps next.0 x (subst (λ u. IsNext u.running_list u.steps next.0) (sym same) next.1) is;
  none = ap (λ u. u.pending) same ∙ none;
}

-- a request as a step gives it
pub gives_request : (old new : SessionValue) (r : Request) → Awaits old r new → Gives old (ask_of_request r) new
gives_request old new (request.Read path) w = w
gives_request old new (request.Write path bytes) w = w

-- what the next command asks for
asks_it : (writes : Option ℕ) (s : State) (t : Option RunningList) (xs : List Step) (d : Command) → ((c : Command) × AsksFor writes s t xs c) → next_command t xs ≡ Some d → AsksFor writes s t xs d
asks_it writes s t xs d asks next = let is = asks.1.next.comes in let same : asks.0 ≡ d = cc in subst (AsksFor writes s t xs) same asks.1

-- a session that waits has a command that asks
pub waiting_keeps : (p : Phase) (writes : Option ℕ) (s : State) (t : Option RunningList) (xs : List Step) (pending : List ℕ) → p ≡ phases.Waiting → KeepsPhase p writes s t xs pending →
    ((c : Command) × AsksFor writes s t xs c) × (pending ≡ [])
waiting_keeps p writes s t xs pending e keeps = subst (λ q. KeepsPhase q writes s t xs pending) e keeps

-- a session that waits, by what it holds: its next command asks, and nothing is to be handed out
pub record Awaiting (old v : SessionValue) (writes : Option ℕ) (x : Command) : Type 0 where
  pub same : v ≡ old
  pub at : v.phase ≡ phases.Waiting
  pub asks : AsksFor writes v.present.state v.running_list v.steps x
  pub none : v.pending ≡ []

pub awaiting : (old v : SessionValue) (writes : Option ℕ) (x : Command) → v ≡ old → old.phase ≡ phases.Waiting →
    KeepsPhase v.phase writes v.present.state v.running_list v.steps v.pending → next_command v.running_list v.steps ≡ Some x → Awaiting old v writes x
awaiting old v writes x same waiting held next =
    let at : v.phase ≡ phases.Waiting = ap (λ u. u.phase) same ∙ waiting in
    let keeps = waiting_keeps v.phase writes v.present.state v.running_list v.steps v.pending at held in
    record { same = same; at = at; asks = asks_it writes v.present.state v.running_list v.steps x keeps.0 next; none = keeps.1 }

module _ {old v : SessionValue} {writes : Option ℕ} {x : Command} (w : Awaiting old v writes x) where
  goes_then : goes_unprompted v.phase v.running_list ≡ true
  goes_then = ap (λ p. goes_unprompted p v.running_list) w.at

  pub awaits_asked : (r : Request) → command v.present.state x None ≡ Ok (Asks r) → awaited old ≡ Some r
  awaits_asked r asks = subst (λ u. awaited u ≡ Some r) w.same (passes_awaited v x goes_then w.asks.next w.none r asks)

  pub awaits_something : is_some (awaited old) ≡ true
  awaits_something = ap is_some (awaits_asked w.asks.request w.asks.asks)

  -- the answer to what is awaited
  if_awaited : (a : Answer) (new : SessionValue) → Answers v w.asks.request a new → IfSome (awaited old) (λ q. Answers old q a new)
  if_awaited a new answers =
      subst (λ u. IfSome (awaited u) (λ q. Answers u q a new)) w.same (rw (passes_awaited v x goes_then w.asks.next w.none w.asks.request w.asks.asks) answers)

  pub takes_answer : (a : Answer) (new : SessionValue) (o : Outcome) (output : List ℕ) → command v.present.state x (Some a) ≡ Ok (Makes o) → output ≡ o.output
      → new.phase ≡ phases.Between → new.running_list ≡ running_after v.running_list → new.steps ≡ steps_after v.running_list v.steps → new.fault ≡ v.fault → new.present ≡ turned x.verb (with_state o.state v.present)
      → new.pending ≡ output ++ counted v.present.silent (length_counted writes a) → IfSome (awaited old) (λ q. Answers old q a new)
  takes_answer a new o output done is now list_same left fault present pending =
      if_awaited a new (passes_answered v x goes_then w.asks.next w.none w.asks.request w.asks.asks a new o output writes w.asks.writes_it done is now list_same left fault present pending)

  pub fails_answer : (a : Answer) (new : SessionValue) (f : Fault) (told : List ℕ) → EndsBy v.present.help f new.phase told
      → (f ≢ fault.Memory → (command v.present.state x (Some a) ≡ Err f) ⊎ ((f ≡ fault.File) × ((q : Request) × (command v.present.state x (Some a) ≡ Ok (Asks q)))))
      → new.present.help ≡ v.present.help → new.pending ≡ told → IfSome (awaited old) (λ q. Answers old q a new)
  fails_answer a new f told ends is help pending =
      if_awaited a new (passes_refused v x goes_then w.asks.next w.none w.asks.request w.asks.asks a new f told ends is help pending)
