-- How runs end: by faults of their commands, of the script, or of a file that an answer refused.
use Rattle.std.proofs.Common.{◌≡◌, ℕ, zero, suc, false, List, [], ◌∷◌, Option, Some, None, Result, Ok, Err, refl, subst}
use Rattle.std.proofs.lemmas.Bool.{false≢true}
use Rattle.ed_base.specs.declared.fault.Fault.{Fault}
use Rattle.ed_base.specs.declared.fault.Fault.TheVariants as fault
use Rattle.ed_syntax.specs.declared.options.Options.{Options}
use Rattle.ed_syntax.specs.declared.request.Answer.{Answer}
use Rattle.ed_syntax.specs.declared.request.Answer.TheVariants as answer
use Rattle.ed_syntax.specs.declared.request.Request.{Request}
use Rattle.ed_syntax.specs.declared.request.Request.TheVariants as request
use Rattle.ed_syntax.specs.Commands as ed
use Rattle.ed_syntax.specs.Commands.{Verb, Command, Step, Script}
use Rattle.ed_syntax.specs.meaning.States.{State, kept}
use Rattle.ed_syntax.specs.meaning.Effects.{Effect, Makes, Asks}
use Rattle.ed_syntax.specs.meaning.Globals.{flags, next_taken, closed}
use Rattle.ed_syntax.specs.meaning.Applied.{command}
use Rattle.ed_syntax.specs.meaning.Progress.{Present, Ends, Progress, Hears, Rest, asked_of, stop_of, failing, ending, quitting}
use Rattle.ed_syntax.specs.meaning.Runs.{Further, answered, asking, turned, one, with_state, listed, turn, turns, global, step_by, prompted, at_end, steps, started, start, present, run}
use Rattle.ed_syntax.specs.meaning.Laws.{LastUnserved, last, next, starts, FileCause, at_start, at_command, after_start, NeverEndsBy, FilesHaveACause}
use Rattle.ed_syntax.proofs.meaning.StepLemmas.{either}
use Rattle.ed_syntax.proofs.meaning.FaultSteps.{Gives, Meets}
use Rattle.ed_syntax.proofs.meaning.FaultLemmas.{Own}
use Rattle.ed_syntax.proofs.meaning.AnswerLemmas.{IsMade, Answered, Asking, command-asking}

-- a fault is its command's or its script's own, or that of a file with its cause
pub data Caused : Fault → List Request → List Answer → Type 0 where
  own : (f : Fault) (asked : List Request) (answers : List Answer) → Own f → Caused f asked answers
  refused : (asked : List Request) (answers : List Answer) → LastUnserved asked answers → Caused fault.File asked answers

-- what ends a run has its cause
abbrev pub EndsWell : Progress → List Answer → Type 0
EndsWell p answers = (f : Fault) → stop_of p ≡ Ends (Err f) → Caused f (asked_of p) answers

-- a run from some point on, for all answers
abbrev pub GoesWell : Further → Type 0
GoesWell go = (m : Present) (answers : List Answer) → EndsWell (go m answers) answers

failing-well : (m : Present) (f : Fault) (answers : List Answer) → Own f → EndsWell (failing m f) answers
failing-well m f answers is g stops = let e : f ≡ g = cc in own g [] answers (subst Own e is)

ending-well : (m : Present) (answers : List Answer) → EndsWell (ending m) answers
ending-well m answers f stops = cc

-- an answer more
heard : {f : Fault} {asked : List Request} {answers : List Answer} (r : Request) (a : Answer) → Caused f asked answers → Caused f (r ∷ asked) (a ∷ answers)
heard r a (own f asked answers is) = own f (r ∷ asked) (a ∷ answers) is
heard r a (refused asked answers is) = refused (r ∷ asked) (a ∷ answers) (next r a asked answers is)

-- a fault after an answer
unserved : {r : Request} {a : Answer} {f : Fault} → Answered r a f → (answers : List Answer) → Caused f (r ∷ []) (a ∷ answers)
unserved {r} {a} (Answered.own f is) answers = own f (r ∷ []) (a ∷ answers) is
unserved {r} {a} (Answered.refused is) answers = refused (r ∷ []) (a ∷ answers) (last r a answers is)

-- a command that has its answer, and the run after it
answered-well : (m : Present) (r : Request) (a : Answer) (counted : List ℕ) (second : Result Effect Fault) (go : Further) → Meets (Answered r a) second → Gives IsMade second → GoesWell go →
    (answers : List Answer) → EndsWell (Hears m.help r (answered m counted second go answers)) (a ∷ answers)
answered-well m r a counted (Err f) go faults once well answers = λ g stops. let e : f ≡ g = cc in subst (λ g. Caused g (r ∷ []) (a ∷ answers)) e (unserved (faults f refl) answers)
answered-well m r a counted (Ok (Makes o)) go faults once well answers = λ g stops. heard r a (well _ answers g stops)
answered-well m r a counted (Ok (Asks q)) go faults once well answers = absurd (once (Asks q) refl q refl)

-- a command and the run after it
asking-well : (m : Present) (first : Result Effect Fault) (again : Answer → Result Effect Fault) (go : Further) → Asking first again → GoesWell go →
    (answers : List Answer) → EndsWell (asking m first again go answers) answers
asking-well m (Err f) again go is well answers = failing-well m f answers (is.own f refl)
asking-well m (Ok (Makes o)) again go is well answers = well _ answers
asking-well m (Ok (Asks r)) again go is well [] = λ f stops. cc
asking-well m (Ok (Asks r)) again go is well (a ∷ answers) = answered-well m r a _ (again a) go (is.heard r refl a) (is.once a) well answers

one-well : (c : Command) (m : Present) (go : Further) → GoesWell go → (answers : List Answer) → EndsWell (one c m go answers) answers
one-well c m go well answers =
    asking-well m (command m.state c None) (λ a. command m.state c (Some a)) (λ t. go (turned c.verb t)) (command-asking m.state c)
    (λ t more. well (turned c.verb t) more) answers

-- the commands of a list that are left, and the list for each line that is taken
pub listed-well : (cs : List Command) (m : Present) (go : Further) → GoesWell go → (answers : List Answer) → EndsWell (listed cs m go answers) answers
listed-well [] m go well answers = well m answers
listed-well (c ∷ cs) m go well answers = one-well c m (λ t. listed cs t go) (λ t more. listed-well cs t go well more) answers

turn-well : (taken : Option State) (again : State → Rest) (over : Rest) → ((s : State) (answers : List Answer) → EndsWell (again s answers) answers) →
    ((answers : List Answer) → EndsWell (over answers) answers) → (answers : List Answer) → EndsWell (turn taken again over answers) answers
turn-well None again over more done answers = done answers
turn-well (Some s) again over more done answers = more s answers

pub turns-well : (lines : ℕ) (list : List Command) (m : Present) (go : Further) → GoesWell go → (answers : List Answer) → EndsWell (turns lines list m go answers) answers
turns-well zero list m go well answers = well _ answers
turns-well (suc lines) list m go well answers =
    turn-well (next_taken m.state) (λ s. listed list (with_state s m) (λ t. turns lines list t go)) (go (with_state (closed m.state) m))
    (λ s more. listed-well list (with_state s m) (λ t. turns lines list t go) (λ t later. turns-well lines list t go well later) more)
    (λ more. well _ more) answers

quitting-well : (m : Present) (answers : List Answer) → EndsWell (quitting m) answers
quitting-well m answers =
    either (λ p. EndsWell p answers) m.state.changed _ _ (λ changed. failing-well m fault.Unsaved answers refl) (λ saved. ending-well m answers)

step_by-well : (verb : Verb) (x : Step) (m : Present) (go : Further) → GoesWell go → (answers : List Answer) → EndsWell (step_by verb x m go answers) answers
step_by-well ed.Quit x m go well answers = quitting-well m answers
step_by-well ed.QuitAnyway x m go well answers = ending-well m answers
step_by-well (ed.Global sense pattern) x m go well answers =
    one-well x.command m (λ t. global (kept m.state) x.list t go) (λ t more. turns-well (flags t.state) x.list _ go well more) answers
step_by-well _ x m go well answers = one-well x.command m go well answers

prompted-well : (m : Present) (p : Progress) (answers : List Answer) → EndsWell p answers → EndsWell (prompted m p) answers
prompted-well m p answers well =
    either (λ p. EndsWell p answers) m.prompting _ _ (λ on. well) (λ off. well)

at_end-well : (bad : Option ℕ) (m : Present) (answers : List Answer) → EndsWell (at_end bad m) answers
at_end-well None m answers = quitting-well m answers
at_end-well (Some line) m answers = failing-well m fault.Syntax answers refl

pub steps-well : (xs : List Step) (bad : Option ℕ) → GoesWell (steps xs bad)
steps-well [] bad m answers = prompted-well m (at_end bad m) answers (at_end-well bad m answers)
steps-well (x ∷ xs) bad m answers =
    prompted-well m _ answers (step_by-well x.command.verb x m (λ t more. steps xs bad t more) (λ t more. steps-well xs bad t more) answers)

-- a fault is that of a command or of the script, or that of a file with its cause
pub data StartCaused (path : Option (List ℕ)) : Fault → List Request → List Answer → Type 0 where
  owned : (f : Fault) (asked : List Request) (answers : List Answer) → Own f → StartCaused path f asked answers
  by_file : (asked : List Request) (answers : List Answer) → FileCause path asked answers → StartCaused path fault.File asked answers

-- what ends a run from its start on has its cause
abbrev pub StartsWell : Option (List ℕ) → Progress → List Answer → Type 0
StartsWell path p answers = (f : Fault) → stop_of p ≡ Ends (Err f) → StartCaused path f (asked_of p) answers

without_start : {f : Fault} {asked : List Request} {answers : List Answer} → Caused f asked answers → StartCaused None f asked answers
without_start (own f asked answers is) = owned f asked answers is
without_start (refused asked answers is) = by_file asked answers (at_command asked answers is)

started-first : {f : Fault} {asked : List Request} {answers : List Answer} (path : List ℕ) (a : Answer) → Caused f asked answers → StartCaused (Some path) f (request.Read path ∷ asked) (a ∷ answers)
started-first path a (own f asked answers is) = owned f (request.Read path ∷ asked) (a ∷ answers) is
started-first path a (refused asked answers is) = by_file (request.Read path ∷ asked) (a ∷ answers) (after_start path a asked answers is)

-- the start's answer is refused
start-refused : (path : List ℕ) (a : Answer) (m : Present) (answers : List Answer) → starts a ≡ false → StartsWell (Some path) (Hears m.help (request.Read path) (failing m fault.File)) (a ∷ answers)
start-refused path a m answers is f stops =
    let e : fault.File ≡ f = cc in
    subst (λ f. StartCaused (Some path) f (request.Read path ∷ []) (a ∷ answers)) e (by_file (request.Read path ∷ []) (a ∷ answers) (at_start path a answers is))

-- the start file's answer, and the run after it
started-well : (path : List ℕ) (a : Answer) (m : Present) (go : Further) → GoesWell go → (answers : List Answer) →
    StartsWell (Some path) (Hears m.help (request.Read path) (started path a m go answers)) (a ∷ answers)
started-well path (answer.Bytes bytes) m go well answers = λ f stops. started-first path (answer.Bytes bytes) (well _ answers f stops)
started-well path answer.Missing m go well answers = λ f stops. started-first path answer.Missing (well _ answers f stops)
started-well path answer.Refused m go well answers = start-refused path answer.Refused m answers refl
started-well path answer.Done m go well answers = start-refused path answer.Done m answers refl

start-well : (path : Option (List ℕ)) (m : Present) (go : Further) → GoesWell go → (answers : List Answer) → StartsWell path (start path m go answers) answers
start-well None m go well answers = λ f stops. without_start (well m answers f stops)
start-well (Some path) m go well [] = λ f stops. cc
start-well (Some path) m go well (a ∷ answers) = started-well path a m go well answers

pub run-well : (script : Script) (o : Options) (answers : List Answer) → StartsWell o.path (run script o answers) answers
run-well script o answers = start-well o.path (present o) (steps script.steps script.fault) (steps-well script.steps script.fault) answers

-- neither memory nor output is a cause
memory-caused : {path : Option (List ℕ)} {asked : List Request} {answers : List Answer} → StartCaused path fault.Memory asked answers → ⊥
memory-caused (owned f asked answers is) = false≢true is

output-caused : {path : Option (List ℕ)} {asked : List Request} {answers : List Answer} → StartCaused path fault.Output asked answers → ⊥
output-caused (owned f asked answers is) = false≢true is

file-caused : {path : Option (List ℕ)} {asked : List Request} {answers : List Answer} → StartCaused path fault.File asked answers → FileCause path asked answers
file-caused (owned f asked answers is) = absurd (false≢true is)
file-caused (by_file asked answers is) = is

pub never_memory : NeverEndsBy fault.Memory
never_memory script o answers ends = memory-caused (run-well script o answers fault.Memory ends)

pub never_output : NeverEndsBy fault.Output
never_output script o answers ends = output-caused (run-well script o answers fault.Output ends)

pub files_have_a_cause : FilesHaveACause
files_have_a_cause script o answers ends = file-caused (run-well script o answers fault.File ends)
