-- How a session goes on where a global command begins, where one of its lines is taken, and where it is over.
use Rattle.std.proofs.Common.{◌≡◌, ℕ, zero, suc, ◌<◌, ◌-◌, List, [], ◌∷◌, ◌++◌, append-nil, arith, true, false, drop, Option, Some, None, Result, Ok, Err, refl, sym, ap, ◌∙◌, subst, ◌⊎◌, inl, inr}
use Rattle.std.specs.Prelude.{IsOkAnd, IfSome, IsSome, is_some, option_map, unwrap_or}
use Rattle.ed_base.specs.declared.fault.Fault.{Fault}
use Rattle.ed_syntax.specs.declared.request.Answer.{Answer}
use Rattle.ed_syntax.specs.meaning.Applied.{command}
use Rattle.ed_syntax.specs.Commands as ed
use Rattle.ed_syntax.specs.Commands.{Command, Step, Verb}
use Rattle.ed_syntax.specs.meaning.Effects.{Outcome, Effect, Makes, Asks}
use Rattle.ed_syntax.specs.meaning.Globals.{flags, opened, next_taken, closed}
use Rattle.ed_syntax.specs.meaning.Progress.{Present, failing}
use Rattle.ed_syntax.specs.meaning.Runs.{Further, with_state, turned, one, turns, inside, global, steps, unprompted}
use Rattle.ed_syntax.specs.meaning.States.{State, kept}
use Rattle.ed_commands.specs.declared.editor.globals.Begun.{Begun}
use Rattle.ed_syntax.specs.meaning.Verbs.{is_global}
use Rattle.ed_commands.specs.Editors.{BeginsBy}
use Rattle.ed_session.specs.declared.phase.Phase.{Phase}
use Rattle.ed_session.specs.declared.phase.Phase.TheVariants as phases
use Rattle.ed_session.specs.Sessions.{SessionValue, RunningList, rest, rest_at, is_over, is_started}
use Rattle.ed_session.specs.Agendas.{first_command, first_listed, first_list, next_command, lines_of, list_again}
use Rattle.ed_session.specs.Calls.{GoesOn}
use Rattle.ed_session.specs.Insides.{IsNext, goes_unprompted}
use Rattle.ed_session.proofs.Advancing.{no_end}
use Rattle.ed_session.proofs.Commanding.{goes_done, next_fails}
use Rattle.ed_session.proofs.Stepping.{step_lists}

-- what came of the beginning of a global command
pub begun_is : (x : Result Effect Fault) (s t : State) (begun : Begun) → IsOkAnd x (BeginsBy s t begun)
    → (o : Outcome) × (x ≡ Ok (Makes o)) × (t ≡ opened (kept s) o.state) × (begun.lines ≡ flags o.state) × (begun.output ≡ o.output)
begun_is (Ok (Makes o)) s t begun h = (o, refl, h.0, h.1, h.2)
begun_is (Ok (Asks r)) s t begun h = absurd h
begun_is (Err f) s t begun h = absurd h

global_is : (t : Option RunningList) (xs : List Step) (c : Command) → IfSome (next_command t xs) (λ d. is_global d.verb ≡ true) → next_command t xs ≡ Some c → is_global c.verb ≡ true
global_is t xs c h e = rw e at h

-- a session whose next command is a global one that comes first after a prompt, by what it holds
pub record Beginning (old v : SessionValue) (x : Command) : Type 0 where
  pub same : v ≡ old
  pub at : v.phase ≡ phases.Prompted
  pub outside : v.running_list ≡ None
  pub first : first_command v.steps ≡ Some x
  pub is : is_global x.verb ≡ true
  pub none : v.pending ≡ []

pub beginning : (old v : SessionValue) (x : Command) → v ≡ old → old.phase ≡ phases.Prompted → old.running_list ≡ None → old.pending ≡ [] →
    IfSome (next_command old.running_list old.steps) (λ d. is_global d.verb ≡ true) → next_command v.running_list v.steps ≡ Some x → Beginning old v x
beginning old v x same at outside none global next =
    let out = ap (λ u. u.running_list) same ∙ outside in
    record {
      same = same;
      at = ap (λ u. u.phase) same ∙ at;
      outside = out;
      first = subst (λ t. next_command t v.steps ≡ Some x) out next;
      is = global_is v.running_list v.steps x (subst (λ u. IfSome (next_command u.running_list u.steps) (λ d. is_global d.verb ≡ true)) (sym same) global) next;
      none = ap (λ u. u.pending) same ∙ none;
    }

turned_global : (verb : Verb) (m : Present) → is_global verb ≡ true → turned verb m ≡ m
turned_global (ed.Global sense pattern) m is = refl
turned_global verb m is = cc

-- the first step is a global command
first_lists : (xs : List Step) (c : Command) (bad : Option ℕ) (m : Present) (answers : List Answer) → first_command xs ≡ Some c → is_global c.verb ≡ true
    → unprompted xs bad m answers ≡ one c m (λ t. global (kept m.state) (first_list xs) t (steps (drop 1 xs) bad)) answers
first_lists [] c bad m answers e is = cc
first_lists (x ∷ xs) c bad m answers e is =
    let same : x.command ≡ c = cc in
    step_lists x m (steps xs bad) answers (rw same is) ∙ ap (λ d. one d m (λ t. global (kept m.state) x.list t (steps xs bad)) answers) same

next_lists : (v : SessionValue) (c : Command) → v.running_list ≡ None → first_command v.steps ≡ Some c → is_global c.verb ≡ true → v.phase ≡ phases.Prompted
    → (answers : List Answer) → rest v answers ≡ one c v.present (λ t. global (kept v.present.state) (first_list v.steps) t (steps (drop 1 v.steps) v.fault)) answers
next_lists v c outside first is at answers = rw (at, outside) (first_lists v.steps c v.fault v.present answers first is)

-- its lines have their flags
lists_next : (v new : SessionValue) (c : Command) (o : Outcome) (lines : ℕ) → is_global c.verb ≡ true → lines ≡ flags o.state → new.phase ≡ phases.Between
    → new.running_list ≡ Some (record { left = []; list = first_list v.steps; lines = lines }) → new.steps ≡ drop 1 v.steps → new.fault ≡ v.fault
    → new.present ≡ with_state (opened (kept v.present.state) o.state) v.present
    → (answers : List Answer) → rest new answers ≡ global (kept v.present.state) (first_list v.steps) (turned c.verb (with_state o.state v.present)) (steps (drop 1 v.steps) v.fault) answers
lists_next v new c o lines is counts now list_now left fault present answers =
    rw (now, list_now, left, fault, present, counts, turned_global c.verb (with_state o.state v.present) is) refl

-- the first step is a global command, and its list comes next
pub begins_list : (v new : SessionValue) (c : Command) → v.running_list ≡ None → first_command v.steps ≡ Some c → is_global c.verb ≡ true → v.phase ≡ phases.Prompted → v.pending ≡ []
    → (o : Outcome) (lines : ℕ) (output : List ℕ) → command v.present.state c None ≡ Ok (Makes o) → output ≡ o.output → lines ≡ flags o.state → new.phase ≡ phases.Between
    → new.running_list ≡ Some (record { left = []; list = first_list v.steps; lines = lines }) → new.steps ≡ drop 1 v.steps → new.fault ≡ v.fault
    → new.present ≡ with_state (opened (kept v.present.state) o.state) v.present → new.pending ≡ [] → GoesOn v [] output [] new
begins_list v new c outside first is at pending o lines output done wrote counts now list_now left fault present none =
    goes_done v c (λ t. global (kept v.present.state) (first_list v.steps) t (steps (drop 1 v.steps) v.fault)) (next_lists v c outside first is at) pending (ap is_over at) new o output done wrote
    (lists_next v new c o lines is counts now list_now left fault present) none

-- or it fails
pub lists_failing : (v : SessionValue) (c : Command) → v.running_list ≡ None → first_command v.steps ≡ Some c → is_global c.verb ≡ true → v.phase ≡ phases.Prompted → v.pending ≡ []
    → (f : Fault) → command v.present.state c None ≡ Err f → (answers : List Answer) → rest v answers ≡ failing v.present f
lists_failing v c outside first is at pending f fails =
    next_fails v c (λ t. global (kept v.present.state) (first_list v.steps) t (steps (drop 1 v.steps) v.fault)) (next_lists v c outside first is at) pending (ap is_over at) f fails

-- what is left in a global command
at_inside : (v : SessionValue) (p : Phase) (t : RunningList) (answers : List Answer) → v.running_list ≡ Some t → is_over p ≡ false → is_started p ≡ true
    → rest_at p v answers ≡ inside t.left t.lines t.list v.present (steps v.steps v.fault) answers
at_inside v (phases.Fresh path) t answers e running begun = cc
at_inside v phases.Between t answers e running begun = rw e refl
at_inside v phases.Prompted t answers e running begun = rw e refl
at_inside v phases.Waiting t answers e running begun = rw e refl
at_inside v (phases.Over result) t answers e running begun = cc

-- in a global command the next command comes without a prompt
pub unprompted_inside : (p : Phase) (t : Option RunningList) → IsSome t → is_over p ≡ false → is_started p ≡ true → goes_unprompted p t ≡ true
unprompted_inside (phases.Fresh path) t some running begun = cc
unprompted_inside phases.Between None some running begun = cc
unprompted_inside phases.Between (Some t) some running begun = refl
unprompted_inside phases.Prompted t some running begun = refl
unprompted_inside phases.Waiting t some running begun = refl
unprompted_inside (phases.Over result) t some running begun = cc

-- it is there
pub next_inside : (t : Option RunningList) (xs : List Step) → IsSome t → is_some (next_command t xs) ≡ true → (c : Command) × IsNext t xs c
next_inside None xs some there = cc
next_inside (Some t) xs some there = elim (first_listed t.left) as (λ f. first_listed t.left ≡ f → is_some f ≡ true → (c : Command) × IsNext (Some t) xs c) [
  | None ↦ λ e h. cc
  | Some c ↦ λ e h. (c, record { comes = e; alone = λ n. cc })
] refl there

none_listed : (left : List Command) → first_listed left ≡ None → left ≡ []
none_listed [] e = refl
none_listed (c ∷ left) e = cc

turns_more : (lines : ℕ) (list : List Command) (m : Present) (go : Further) (s : State) (answers : List Answer) → 0 < lines → next_taken m.state ≡ Some s
    → turns lines list m go answers ≡ inside list (lines - 1) list (with_state s m) go answers
turns_more zero list m go s answers h found = absurd (omega arith)
turns_more (suc lines) list m go s answers h found = let same : suc lines - 1 ≡ lines = omega arith in rw (found, same) refl

turns_end : (lines : ℕ) (list : List Command) (m : Present) (go : Further) (answers : List Answer) → (lines ≡ 0) ⊎ (next_taken m.state ≡ None)
    → turns lines list m go answers ≡ go (with_state (closed m.state) m) answers
turns_end zero list m go answers h = refl
turns_end (suc lines) list m go answers (inl h) = absurd (omega arith)
turns_end (suc lines) list m go answers (inr none) = rw none refl

-- a session that goes on without output
pub goes_silently : (old new : SessionValue) → is_over old.phase ≡ false → ((answers : List Answer) → rest old answers ≡ rest new answers) → new.pending ≡ old.pending → GoesOn old [] [] [] new
goes_silently old new running same pending = record {
  events = [];
  same = same;
  handed_out = ap (λ p. p ++ []) (sym pending) ∙ append-nil new.pending;
  answered = refl;
  stays = no_end old new running;
}

module _ (v : SessionValue) (t : RunningList) (open_now : v.running_list ≡ Some t) (running : is_over v.phase ≡ false) (begun : is_started v.phase ≡ true) (none : first_listed t.left ≡ None) where
  at_turns : (answers : List Answer) → rest v answers ≡ turns t.lines t.list v.present (steps v.steps v.fault) answers
  at_turns answers = at_inside v v.phase t answers open_now running begun ∙ ap (λ left. inside left t.lines t.list v.present (steps v.steps v.fault) answers) (none_listed t.left none)

  -- a line is taken
  pub line_taken : (new : SessionValue) (s : State) → 0 < t.lines → next_taken v.present.state ≡ Some s → new.phase ≡ v.phase → new.running_list ≡ Some (list_again t) → new.steps ≡ v.steps → new.fault ≡ v.fault
      → new.present ≡ with_state s v.present → (answers : List Answer) → rest v answers ≡ rest new answers
  line_taken new s more found same list_now left fault present answers =
      at_turns answers ∙ turns_more t.lines t.list v.present (steps v.steps v.fault) s answers more found
      ∙ sym (at_inside new new.phase (list_again t) answers list_now (ap is_over same ∙ running) (ap is_started same ∙ begun)
      ∙ rw (left, fault, present) refl)

  -- no line is taken any more
  pub lines_done : (t.lines ≡ 0) ⊎ (next_taken v.present.state ≡ None) → (answers : List Answer)
      → rest v answers ≡ steps v.steps v.fault (with_state (closed v.present.state) v.present) answers
  lines_done h answers = at_turns answers ∙ turns_end t.lines t.list v.present (steps v.steps v.fault) answers h

-- a global command for which lines are left is open
open_for_lines : (o : Option RunningList) → 0 < lines_of o → (t : RunningList) × (o ≡ Some t) × (0 < t.lines)
open_for_lines None h = absurd (omega arith)
open_for_lines (Some t) h = (t, refl, h)

-- a session that is in a global command of whose list nothing is left, by what it holds
pub record Listing (old v : SessionValue) : Type 0 where
  pub same : v ≡ old
  pub open_now : RunningList
  pub inside : v.running_list ≡ Some open_now
  pub more : 0 < open_now.lines
  pub running : is_over v.phase ≡ false
  pub started : is_started v.phase ≡ true
  pub none : next_command (Some open_now) v.steps ≡ None

pub listing : (old v : SessionValue) → v ≡ old → 0 < lines_of old.running_list → next_command old.running_list old.steps ≡ None → is_over old.phase ≡ false → is_started old.phase ≡ true → Listing old v
listing old v same more none running started =
    let t = open_for_lines v.running_list (subst (λ u. 0 < lines_of u.running_list) (sym same) more) in
    record {
      same = same;
      open_now = t.0;
      inside = t.1;
      more = t.2;
      running = ap (λ u. is_over u.phase) same ∙ running;
      started = ap (λ u. is_started u.phase) same ∙ started;
      none = ap (λ o. next_command o v.steps) (sym t.1) ∙ ap (λ u. next_command u.running_list u.steps) same ∙ none;
    }

-- what comes of taking a line
pub taken_is : (o : Option State) (s t : State) → is_some o ≡ true → t ≡ unwrap_or o s → o ≡ Some t
taken_is None s t some is = cc
taken_is (Some x) s t some is = ap Some (sym is)

pub none_is : (o : Option State) (s t : State) → is_some o ≡ false → t ≡ unwrap_or o s → (o ≡ None) × (t ≡ s)
none_is None s t some is = (refl, is)
none_is (Some x) s t some is = cc

-- the list is taken from its beginning
pub taken_again : (o : Option RunningList) (t : RunningList) → o ≡ Some t → option_map list_again o ≡ Some (list_again t)
taken_again o t e = rw e refl
