-- What a step of the script, its prompt and its end do to a run, whatever they are.
use Rattle.std.proofs.Common.{◌≡◌, ℕ, zero, suc, List, [], ◌∷◌, Bool, true, false, Option, Some, None, Result, Ok, Err, refl, sym, subst, append-nil}
use Rattle.ed_base.specs.declared.fault.Fault.{Fault}
use Rattle.ed_base.specs.declared.fault.Fault.TheVariants as fault
use Rattle.ed_syntax.specs.declared.request.Answer.{Answer}
use Rattle.ed_syntax.specs.declared.request.Answer.TheVariants as answer
use Rattle.ed_syntax.specs.declared.request.Request.{Request}
use Rattle.ed_syntax.specs.meaning.Applied.{command}
use Rattle.ed_syntax.specs.Commands as ed
use Rattle.ed_syntax.specs.Commands.{Command, Step, Verb}
use Rattle.ed_syntax.specs.meaning.Effects.{Effect, Makes, Asks}
use Rattle.ed_syntax.specs.meaning.Progress.{Present, Progress, Rest, Writes, Hears, cut, broken_off, report, failing, ending, quitting, asked_of, RunsOut}
use Rattle.ed_syntax.specs.meaning.States.{State, kept}
use Rattle.ed_syntax.specs.meaning.Globals.{flags, opened, closed, next_taken}
use Rattle.ed_syntax.specs.meaning.Runs.{Further, answered, asking, turned, one, with_state, listed, turn, turns, global, step_by, step, steps, unprompted, prompted, at_end, start, started}
use Rattle.ed_session.specs.declared.phase.Phase.{Phase}
use Rattle.ed_session.specs.declared.phase.Phase.TheVariants as phases
use Rattle.ed_syntax.specs.declared.verbs.Ends.TheVariants as ends
use Rattle.ed_syntax.specs.meaning.Verbs.{takes, is_global}
use Rattle.ed_session.specs.Agendas.{first_command, next_command}
use Rattle.ed_session.specs.Insides.{is_alone}
use Rattle.ed_session.specs.Sessions.{SessionValue, RunningList, rest, rest_at, go_on, go_on_prompted, go_on_unprompted, is_over}

-- a step ends the run, or its command is asked and answered, and in a global command its list is run
pub data StepIs (x : Step) (m : Present) (go : Further) (answers : List Answer) : Progress → Type 0 where
  by_end : StepIs x m go answers (ending m)
  by_quit : StepIs x m go answers (quitting m)
  lists : StepIs x m go answers (one x.command m (λ t. global (kept m.state) x.list t go) answers)
  goes : StepIs x m go answers (one x.command m go answers)

verb_is : (verb : Verb) (x : Step) (m : Present) (go : Further) (answers : List Answer) → StepIs x m go answers (step_by verb x m go answers)
verb_is ed.QuitAnyway x m go answers = by_end
verb_is ed.Quit x m go answers = by_quit
verb_is (ed.Global sense pattern) x m go answers = lists
verb_is verb x m go answers = goes

pub step_is : (x : Step) (m : Present) (go : Further) (answers : List Answer) → StepIs x m go answers (step x m go answers)
step_is x m go answers = verb_is x.command.verb x m go answers

verb_one : (verb : Verb) (x : Step) (m : Present) (go : Further) (answers : List Answer) → is_alone verb ≡ true → step_by verb x m go answers ≡ one x.command m go answers
verb_one ed.QuitAnyway x m go answers h = cc
verb_one ed.Quit x m go answers h = cc
verb_one (ed.Global sense pattern) x m go answers h = cc
verb_one verb x m go answers h = refl

-- `Q` ends the run, and `q` as the end of the script does
verb_ends : (verb : Verb) (x : Step) (m : Present) (go : Further) (answers : List Answer) → (takes verb).ends ≡ Some ends.Anyway → step_by verb x m go answers ≡ ending m
verb_ends ed.QuitAnyway x m go answers h = refl
verb_ends verb x m go answers h = cc

step_ends : (x : Step) (m : Present) (go : Further) (answers : List Answer) → (takes x.command.verb).ends ≡ Some ends.Anyway → step x m go answers ≡ ending m
step_ends x m go answers h = verb_ends x.command.verb x m go answers h

verb_quits : (verb : Verb) (x : Step) (m : Present) (go : Further) (answers : List Answer) → (takes verb).ends ≡ Some ends.AsScript → step_by verb x m go answers ≡ quitting m
verb_quits ed.Quit x m go answers h = refl
verb_quits verb x m go answers h = cc

step_quits : (x : Step) (m : Present) (go : Further) (answers : List Answer) → (takes x.command.verb).ends ≡ Some ends.AsScript → step x m go answers ≡ quitting m
step_quits x m go answers h = verb_quits x.command.verb x m go answers h

-- what comes next ends the run so
first_quits : (xs : List Step) (c : Command) (bad : Option ℕ) (m : Present) (answers : List Answer) → first_command xs ≡ Some c → (takes c.verb).ends ≡ Some ends.AsScript
    → unprompted xs bad m answers ≡ quitting m
first_quits [] c bad m answers e is = cc
first_quits (x ∷ xs) c bad m answers e is = let same : x.command ≡ c = cc in step_quits x m (steps xs bad) answers (rw same is)

first_ends : (xs : List Step) (c : Command) (bad : Option ℕ) (m : Present) (answers : List Answer) → first_command xs ≡ Some c → (takes c.verb).ends ≡ Some ends.Anyway
    → unprompted xs bad m answers ≡ ending m
first_ends [] c bad m answers e is = cc
first_ends (x ∷ xs) c bad m answers e is = let same : x.command ≡ c = cc in step_ends x m (steps xs bad) answers (rw same is)

module _ (old v : SessionValue) (c : Command) (same : v ≡ old) (at : old.phase ≡ phases.Prompted) (outside : old.running_list ≡ None) (next : next_command v.running_list v.steps ≡ Some c) where
  first : first_command old.steps ≡ Some c
  first = subst (λ t. next_command t old.steps ≡ Some c) outside (subst (λ u. next_command u.running_list u.steps ≡ Some c) same next)

  pub next_quits : (takes c.verb).ends ≡ Some ends.AsScript → (answers : List Answer) → rest old answers ≡ quitting old.present
  next_quits is answers = rw (at, outside) (first_quits old.steps c old.fault old.present answers first is)

  pub next_ends : (takes c.verb).ends ≡ Some ends.Anyway → (answers : List Answer) → rest old answers ≡ ending old.present
  next_ends is answers = rw (at, outside) (first_ends old.steps c old.fault old.present answers first is)

verb_lists : (verb : Verb) (x : Step) (m : Present) (go : Further) (answers : List Answer) → is_global verb ≡ true
    → step_by verb x m go answers ≡ one x.command m (λ t. global (kept m.state) x.list t go) answers
verb_lists (ed.Global sense pattern) x m go answers h = refl
verb_lists verb x m go answers h = cc

-- a global command comes before its list
pub step_lists : (x : Step) (m : Present) (go : Further) (answers : List Answer) → is_global x.command.verb ≡ true
    → step x m go answers ≡ one x.command m (λ t. global (kept m.state) x.list t go) answers
step_lists x m go answers h = verb_lists x.command.verb x m go answers h

-- a step that is a command alone is asked and answered
pub step_one : (x : Step) (m : Present) (go : Further) (answers : List Answer) → is_alone x.command.verb ≡ true → step x m go answers ≡ one x.command m go answers
step_one x m go answers h = verb_one x.command.verb x m go answers h

-- the steps that are left are those after the prompt
pub steps_prompted : (xs : List Step) (bad : Option ℕ) (m : Present) (answers : List Answer) → steps xs bad m answers ≡ prompted m (unprompted xs bad m answers)
steps_prompted [] bad m answers = refl
steps_prompted (x ∷ xs) bad m answers = refl

-- a run is at a step, in a help mode, at which memory may run out
abbrev pub Opens : Bool → Progress → Type 0
Opens help p = cut zero zero p ≡ broken_off help [] fault.Memory

at_end_opens : (bad : Option ℕ) (m : Present) → Opens m.help (at_end bad m)
at_end_opens None m = elim m.state.changed as (λ b. Opens m.help (elim b [ true ↦ failing m fault.Unsaved | false ↦ ending m ])) [ true ↦ refl | false ↦ refl ]
at_end_opens (Some line) m = refl

pub answered_opens : (m : Present) (counted : List ℕ) (x : Result Effect Fault) (go : Further) (answers : List Answer) → Opens m.help (answered m counted x go answers)
answered_opens m counted (Err f) go answers = refl
answered_opens m counted (Ok (Makes o)) go answers = refl
answered_opens m counted (Ok (Asks r)) go answers = refl

asking_opens : (m : Present) (x : Result Effect Fault) (again : Answer → Result Effect Fault) (go : Further) (answers : List Answer) → Opens m.help (asking m x again go answers)
asking_opens m (Err f) again go answers = refl
asking_opens m (Ok (Makes o)) again go answers = refl
asking_opens m (Ok (Asks r)) again go [] = refl
asking_opens m (Ok (Asks r)) again go (a ∷ answers) = refl

step_is_opens : (x : Step) (m : Present) (go : Further) (answers : List Answer) (p : Progress) → StepIs x m go answers p → Opens m.help p
step_is_opens x m go answers p by_end = refl
step_is_opens x m go answers p by_quit = at_end_opens None m
step_is_opens x m go answers p lists = asking_opens m (command m.state x.command None) _ _ answers
step_is_opens x m go answers p goes = asking_opens m (command m.state x.command None) _ _ answers

unprompted_opens : (xs : List Step) (bad : Option ℕ) (m : Present) (answers : List Answer) → Opens m.help (unprompted xs bad m answers)
unprompted_opens [] bad m answers = at_end_opens bad m
unprompted_opens (x ∷ xs) bad m answers = step_is_opens x m _ answers _ (step_is x m _ answers)

prompted_opens : (m : Present) (p : Progress) → Opens m.help p → Opens m.help (prompted m p)
prompted_opens m p h = elim m.prompting as (λ b. Opens m.help (elim b [ true ↦ Writes m.help m.prompt p | false ↦ p ])) [ true ↦ refl | false ↦ h ]

steps_open : (xs : List Step) (bad : Option ℕ) (m : Present) (answers : List Answer) → Opens m.help (steps xs bad m answers)
steps_open xs bad m answers = rw (steps_prompted xs bad m answers) (prompted_opens m _ (unprompted_opens xs bad m answers))

-- what is left of a list, and then
listed_opens : (left : List Command) (m : Present) (go : Further) (answers : List Answer) → ((t : Present) → Opens t.help (go t answers)) → Opens m.help (listed left m go answers)
listed_opens [] m go answers h = h m
listed_opens (c ∷ left) m go answers h = asking_opens m (command m.state c None) _ _ answers

turn_opens : (help : Bool) (taken : Option State) (again : State → Rest) (over : Rest) (answers : List Answer) → ((s : State) → Opens help (again s answers)) → Opens help (over answers)
    → Opens help (turn taken again over answers)
turn_opens help None again over answers h k = k
turn_opens help (Some s) again over answers h k = h s

turns_open : (lines : ℕ) (list : List Command) (m : Present) (go : Further) (answers : List Answer) → ((t : Present) → Opens t.help (go t answers)) → Opens m.help (turns lines list m go answers)
turns_open zero list m go answers h = h (with_state (closed m.state) m)
turns_open (suc lines) list m go answers h =
    turn_opens m.help (next_taken m.state) (λ s. listed list (with_state s m) (λ t. turns lines list t go)) (go (with_state (closed m.state) m)) answers
    (λ s. listed_opens list (with_state s m) (λ t. turns lines list t go) answers (λ t. turns_open lines list t go answers h)) (h (with_state (closed m.state) m))

go_on_opens : (t : Option RunningList) (outside script : Further) (m : Present) (answers : List Answer) → ((n : Present) → Opens n.help (outside n answers)) → ((n : Present) → Opens n.help (script n answers))
    → Opens m.help (go_on t outside script m answers)
go_on_opens None outside script m answers h k = h m
go_on_opens (Some t) outside script m answers h k =
    listed_opens t.left m (λ n. turns t.lines t.list n script) answers (λ n. turns_open t.lines t.list n script answers k)

pub started_opens : (path : List ℕ) (a : Answer) (m : Present) (go : Further) (answers : List Answer) → ((t : Present) → Opens t.help (go t answers)) → Opens m.help (started path a m go answers)
started_opens path (answer.Bytes bytes) m go answers h = refl
started_opens path answer.Missing m go answers h = h _
started_opens path answer.Refused m go answers h = refl
started_opens path answer.Done m go answers h = refl

start_opens : (path : Option (List ℕ)) (m : Present) (go : Further) (answers : List Answer) → ((t : Present) → Opens t.help (go t answers)) → Opens m.help (start path m go answers)
start_opens None m go answers h = h m
start_opens (Some path) m go [] h = refl
start_opens (Some path) m go (a ∷ answers) h = refl

pub prompted_left_opens : (t : Option RunningList) (xs : List Step) (bad : Option ℕ) (m : Present) (answers : List Answer) → Opens m.help (go_on_prompted t xs bad m answers)
prompted_left_opens t xs bad m answers = go_on_opens t (steps xs bad) (steps xs bad) m answers (λ n. steps_open xs bad n answers) (λ n. steps_open xs bad n answers)

unprompted_left_opens : (t : Option RunningList) (xs : List Step) (bad : Option ℕ) (m : Present) (answers : List Answer) → Opens m.help (go_on_unprompted t xs bad m answers)
unprompted_left_opens t xs bad m answers = go_on_opens t (unprompted xs bad) (steps xs bad) m answers (λ n. unprompted_opens xs bad n answers) (λ n. steps_open xs bad n answers)

at_opens : (p : Phase) (v : SessionValue) (answers : List Answer) → is_over p ≡ false → Opens v.present.help (rest_at p v answers)
at_opens (phases.Fresh path) v answers h =
    start_opens path v.present (go_on_prompted v.running_list v.steps v.fault) answers (λ t. prompted_left_opens v.running_list v.steps v.fault t answers)
at_opens phases.Between v answers h = prompted_left_opens v.running_list v.steps v.fault v.present answers
at_opens phases.Prompted v answers h = unprompted_left_opens v.running_list v.steps v.fault v.present answers
at_opens phases.Waiting v answers h = unprompted_left_opens v.running_list v.steps v.fault v.present answers
at_opens (phases.Over result) v answers h = cc

-- memory may run out in a session that isn't over
pub rest_opens : (v : SessionValue) (answers : List Answer) → is_over v.phase ≡ false → Opens v.present.help (rest v answers)
rest_opens v answers h = at_opens v.phase v answers h

-- where it does, the report alone is written
pub runs_out : (help : Bool) (p : Progress) → Opens help p → RunsOut p (report help fault.Memory) []
runs_out help p e = record {
  steps = zero;
  bytes = zero;
  lost = rw e refl;
  written = rw e (sym (append-nil (report help fault.Memory)));
  answered = rw e refl;
}

-- the same after an answer
pub hears_and_runs_out : (help mode : Bool) (r : Request) (p : Progress) → Opens help p → RunsOut (Hears mode r p) (report help fault.Memory) (r ∷ [])
hears_and_runs_out help mode r p e = record {
  steps = 1;
  bytes = zero;
  lost = rw e refl;
  written = rw e (sym (append-nil (report help fault.Memory)));
  answered = rw e refl;
}

-- without an answer nothing has been asked and answered
abbrev Quiet : Further → Type 0
Quiet go = (m : Present) → asked_of (go m []) ≡ []

at_end_quiet : (bad : Option ℕ) (m : Present) → asked_of (at_end bad m) ≡ []
at_end_quiet None m = elim m.state.changed as (λ b. asked_of (elim b [ true ↦ failing m fault.Unsaved | false ↦ ending m ]) ≡ []) [ true ↦ refl | false ↦ refl ]
at_end_quiet (Some line) m = refl

asking_quiet : (m : Present) (x : Result Effect Fault) (again : Answer → Result Effect Fault) (go : Further) → Quiet go → asked_of (asking m x again go []) ≡ []
asking_quiet m (Err f) again go h = refl
asking_quiet m (Ok (Makes o)) again go h = h _
asking_quiet m (Ok (Asks r)) again go h = refl

listed_quiet : (left : List Command) (go : Further) → Quiet go → Quiet (λ m. listed left m go)
listed_quiet [] go h m = h m
listed_quiet (c ∷ left) go h m = asking_quiet m (command m.state c None) _ (λ t. listed left (turned c.verb t) go) (λ t. listed_quiet left go h (turned c.verb t))

turn_quiet : (taken : Option State) (again : State → Rest) (over : Rest) → ((s : State) → asked_of (again s []) ≡ []) → asked_of (over []) ≡ [] → asked_of (turn taken again over []) ≡ []
turn_quiet None again over h k = k
turn_quiet (Some s) again over h k = h s

turns_quiet : (lines : ℕ) (list : List Command) (go : Further) → Quiet go → Quiet (λ m. turns lines list m go)
turns_quiet zero list go h m = h (with_state (closed m.state) m)
turns_quiet (suc lines) list go h m =
    turn_quiet (next_taken m.state) (λ s. listed list (with_state s m) (λ t. turns lines list t go)) (go (with_state (closed m.state) m))
    (λ s. listed_quiet list (λ t. turns lines list t go) (turns_quiet lines list go h) (with_state s m)) (h (with_state (closed m.state) m))

go_on_quiet : (t : Option RunningList) (outside script : Further) → Quiet outside → Quiet script → Quiet (go_on t outside script)
go_on_quiet None outside script h k m = h m
go_on_quiet (Some t) outside script h k m = listed_quiet t.left (λ n. turns t.lines t.list n script) (turns_quiet t.lines t.list script k) m

step_quiet : (x : Step) (m : Present) (go : Further) (p : Progress) → Quiet go → StepIs x m go [] p → asked_of p ≡ []
step_quiet x m go p h by_end = refl
step_quiet x m go p h by_quit = at_end_quiet None m
step_quiet x m go p h lists =
    asking_quiet m (command m.state x.command None) _ (λ t. global (kept m.state) x.list (turned x.command.verb t) go)
    (λ t. let n : Present = turned x.command.verb t in turns_quiet (flags n.state) x.list go h (with_state (opened (kept m.state) n.state) n))
step_quiet x m go p h goes = asking_quiet m (command m.state x.command None) _ _ (λ t. h _)

prompted_quiet : (m : Present) (p : Progress) → asked_of p ≡ [] → asked_of (prompted m p) ≡ []
prompted_quiet m p h = elim m.prompting as (λ b. asked_of (elim b [ true ↦ Writes m.help m.prompt p | false ↦ p ]) ≡ []) [ true ↦ h | false ↦ h ]

steps_quiet : (xs : List Step) (bad : Option ℕ) → Quiet (steps xs bad)
steps_quiet [] bad m = prompted_quiet m (at_end bad m) (at_end_quiet bad m)
steps_quiet (x ∷ xs) bad m = prompted_quiet m _ (step_quiet x m _ _ (λ t. steps_quiet xs bad t) (step_is x m _ []))

unprompted_quiet : (xs : List Step) (bad : Option ℕ) → Quiet (unprompted xs bad)
unprompted_quiet [] bad m = at_end_quiet bad m
unprompted_quiet (x ∷ xs) bad m = step_quiet x m _ _ (λ t. steps_quiet xs bad t) (step_is x m _ [])

start_quiet : (path : Option (List ℕ)) (m : Present) (go : Further) → Quiet go → asked_of (start path m go []) ≡ []
start_quiet None m go h = h m
start_quiet (Some path) m go h = refl

prompted_left_quiet : (t : Option RunningList) (xs : List Step) (bad : Option ℕ) → Quiet (go_on_prompted t xs bad)
prompted_left_quiet t xs bad = go_on_quiet t (steps xs bad) (steps xs bad) (steps_quiet xs bad) (steps_quiet xs bad)

unprompted_left_quiet : (t : Option RunningList) (xs : List Step) (bad : Option ℕ) → Quiet (go_on_unprompted t xs bad)
unprompted_left_quiet t xs bad = go_on_quiet t (unprompted xs bad) (steps xs bad) (unprompted_quiet xs bad) (steps_quiet xs bad)

at_quiet : (p : Phase) (v : SessionValue) → asked_of (rest_at p v []) ≡ []
at_quiet (phases.Fresh path) v = start_quiet path v.present _ (prompted_left_quiet v.running_list v.steps v.fault)
at_quiet phases.Between v = prompted_left_quiet v.running_list v.steps v.fault v.present
at_quiet phases.Prompted v = unprompted_left_quiet v.running_list v.steps v.fault v.present
at_quiet phases.Waiting v = unprompted_left_quiet v.running_list v.steps v.fault v.present
at_quiet (phases.Over result) v = refl

pub rest_quiet : (v : SessionValue) → asked_of (rest v []) ≡ []
rest_quiet v = at_quiet v.phase v
