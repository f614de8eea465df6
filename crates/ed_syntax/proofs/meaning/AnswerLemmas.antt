-- What a command makes of the answer to its request, and that no other answer is looked at.
use Rattle.std.proofs.Common.{◌≡◌, ℕ, Bool, true, false, List, Option, Some, None, Result, Ok, Err, refl, sym, ap, ◌∙◌, subst}
use Rattle.ed_base.specs.declared.fault.Fault.{Fault}
use Rattle.ed_base.specs.declared.fault.Fault.TheVariants as fault
use Rattle.ed_syntax.specs.declared.request.Answer.{Answer}
use Rattle.ed_syntax.specs.declared.request.Answer.TheVariants as answer
use Rattle.ed_syntax.specs.declared.request.Request.{Request}
use Rattle.ed_syntax.specs.declared.request.Request.TheVariants as request
use Rattle.ed_syntax.specs.Commands as ed
use Rattle.ed_syntax.specs.Commands.{Verb, Command}
use Rattle.ed_syntax.specs.meaning.States.{State}
use Rattle.ed_syntax.specs.meaning.Values.{◌>>◌}
use Rattle.ed_syntax.specs.meaning.Ranges.{Span}
use Rattle.ed_syntax.specs.meaning.Effects as effect
use Rattle.ed_syntax.specs.meaning.Effects.{Outcome, Effect, Makes, Asks}
use Rattle.ed_syntax.specs.meaning.SubstitutedLines.{substitute}
use Rattle.ed_syntax.specs.meaning.Files as file
use Rattle.ed_syntax.specs.meaning.Files.{used_path, with_bytes, written_to, with_lines, saved}
use Rattle.ed_syntax.specs.meaning.Globals.{flagged}
use Rattle.ed_syntax.specs.meaning.Applied.{placed, making, effect_of, suffix_written, completed, command}
use Rattle.ed_syntax.specs.meaning.Laws.{serves, UnaskedAnswersDoNothing, NothingIsAskedTwice, OnlyUnservedFilesFail}
use Rattle.ed_syntax.proofs.meaning.FaultSteps.{Gives, Meets, gives, gives-none, meets, meets-none, bind-gives, bind-any, bind-meets}
use Rattle.ed_syntax.proofs.meaning.FaultLemmas.{is_own, Own, fine, placed-own, flagged-own, undo-own, move-own, substitute-own, making-own, used_path-own, saved-own, file_name-own, quit-own, suffix-own}

-- it asks for no file
abbrev pub IsMade : Effect → Type 0
IsMade e = (r : Request) → e ≡ Asks r → ⊥

made : (o : Outcome) → Gives IsMade (Ok (Makes o))
made o = gives IsMade (Makes o) (λ r same. cc)

-- a fault of a command's own, or that its request wasn't served
pub data Answered (r : Request) (a : Answer) : Fault → Type 0 where
  own : (f : Fault) → Own f → Answered r a f
  refused : serves r a ≡ false → Answered r a fault.File

-- What comes of a command without an answer, and with each: without one it has faults of its own; where it asks, each answer is of use
-- or the cause of a fault; else the answer isn't looked at.
pub record Asking (first : Result Effect Fault) (again : Answer → Result Effect Fault) : Type 0 where
  pub own : Meets Own first
  pub heard : (r : Request) → first ≡ Ok (Asks r) → (a : Answer) → Meets (Answered r a) (again a)
  pub once : (a : Answer) → Gives IsMade (again a)
  pub unasked : ((r : Request) → first ≡ Ok (Asks r) → ⊥) → (a : Answer) → again a ≡ first

-- one that never asks
never : (r : Result Effect Fault) → Meets Own r → Gives IsMade r → Asking r (λ a. r)
never r owns makes = record { own = owns; heard = λ q asks. absurd (makes (Asks q) asks q refl); once = λ a. makes; unasked = λ unasked a. refl }

-- a fault before it asks
faulty : (f : Fault) → Own f → Asking (Err f) (λ a. Err f)
faulty f is = record { own = meets Own f is; heard = λ r asks. cc; once = λ a. gives-none IsMade f; unasked = λ unasked a. refl }

-- a step before it
asking-after : {A : Type 0} (r : Result A Fault) (first : A → Result Effect Fault) (again : Answer → A → Result Effect Fault) → Meets Own r → ((x : A) → Asking (first x) (λ a. again a x)) →
    Asking (r >> first) (λ a. r >> again a)
asking-after (Ok x) first again owns later = later x
asking-after (Err f) first again owns later = faulty f (owns f refl)

-- an outcome, or a fault
making-never : (r : Result Outcome Fault) → Meets Own r → Asking (making r) (λ a. making r)
making-never r owns = never (making r) (making-own r owns) (bind-any IsMade r _ (λ o. made o))

-- one that asks
asks : (r : Request) (again : Answer → Result Effect Fault) → ((a : Answer) → Meets (Answered r a) (again a)) → ((a : Answer) → Gives IsMade (again a)) → Asking (Ok (Asks r)) again
asks r again heard once = record {
  own = fine (Asks r);
  heard = λ q same a. let e : r ≡ q = cc in subst (λ q. Meets (Answered q a) (again a)) e (heard a);
  once = once;
  unasked = λ unasked a. absurd (unasked r refl);
}

-- a file that is read
bytes-heard : (path : List ℕ) (make : List ℕ → Outcome) (a : Answer) → Meets (Answered (request.Read path) a) (with_bytes path (Some a) make)
bytes-heard path make (answer.Bytes bytes) = meets-none (Answered (request.Read path) (answer.Bytes bytes)) (Makes (make bytes))
bytes-heard path make answer.Missing = meets (Answered (request.Read path) answer.Missing) fault.File (refused refl)
bytes-heard path make answer.Refused = meets (Answered (request.Read path) answer.Refused) fault.File (refused refl)
bytes-heard path make answer.Done = meets (Answered (request.Read path) answer.Done) fault.File (refused refl)

bytes-once : (path : List ℕ) (make : List ℕ → Outcome) (a : Answer) → Gives IsMade (with_bytes path (Some a) make)
bytes-once path make a = bind-any IsMade (file.bytes_read a) _ (λ bytes. made (make bytes))

bytes-asking : (path : List ℕ) (make : List ℕ → Outcome) → Asking (with_bytes path None make) (λ a. with_bytes path (Some a) make)
bytes-asking path make = asks (request.Read path) _ (bytes-heard path make) (bytes-once path make)

-- a file that is written
written-heard : (path bytes : List ℕ) (x : Span) (s : State) (a : Answer) → Meets (Answered (request.Write path bytes) a) (written_to path a x s)
written-heard path bytes x s answer.Done = meets-none (Answered (request.Write path bytes) answer.Done) _
written-heard path bytes x s (answer.Bytes read) = meets (Answered (request.Write path bytes) (answer.Bytes read)) fault.File (refused refl)
written-heard path bytes x s answer.Missing = meets (Answered (request.Write path bytes) answer.Missing) fault.File (refused refl)
written-heard path bytes x s answer.Refused = meets (Answered (request.Write path bytes) answer.Refused) fault.File (refused refl)

written-once : (path : List ℕ) (x : Span) (s : State) (a : Answer) → Gives IsMade (written_to path a x s)
written-once path x s answer.Done = made _
written-once path x s (answer.Bytes read) = gives-none IsMade fault.File
written-once path x s answer.Missing = gives-none IsMade fault.File
written-once path x s answer.Refused = gives-none IsMade fault.File

lines-asking : (path : List ℕ) (x : Span) (s : State) → Asking (with_lines path None x s) (λ a. with_lines path (Some a) x s)
lines-asking path x s = asks _ _ (written-heard path _ x s) (written-once path x s)

edit_anyway-asking : (path : Option (List ℕ)) (s : State) → Asking (file.edit_anyway path None s) (λ a. file.edit_anyway path (Some a) s)
edit_anyway-asking path s = asking-after (used_path path s) _ _ (used_path-own path s) (λ used. bytes-asking used _)

edit-asking : (path : Option (List ℕ)) (s : State) → Asking (file.edit path None s) (λ a. file.edit path (Some a) s)
edit-asking path s =
    asking-after (used_path path s) _ _ (used_path-own path s) (λ used.
    asking-after (saved s) _ _ (saved-own s) (λ t. edit_anyway-asking (Some used) t))

effect_of-asking : (verb : Verb) (listed : Bool) (x : Span) (target : ℕ) (s : State) → Asking (effect_of verb listed x target s None) (λ a. effect_of verb listed x target s (Some a))
effect_of-asking (ed.Move to) listed x target s = never _ (move-own x target s) (bind-any IsMade (effect.move x target s) _ (λ o. made o))
effect_of-asking (ed.Substitute pattern replacement which form) listed x target s =
    making-never (substitute listed pattern replacement which form x s) (substitute-own listed pattern replacement which form x s)
effect_of-asking (ed.ReadFile path) listed x target s = asking-after (used_path path s) _ _ (used_path-own path s) (λ used. bytes-asking used _)
effect_of-asking (ed.WriteFile path) listed x target s = asking-after (used_path path s) _ _ (used_path-own path s) (λ used. lines-asking used x s)
effect_of-asking (ed.Edit path) listed x target s = edit-asking path s
effect_of-asking (ed.EditAnyway path) listed x target s = edit_anyway-asking path s
effect_of-asking (ed.FileName path) listed x target s = making-never (file.file_name path s) (file_name-own path s)
effect_of-asking (ed.Global which pattern) listed x target s =
    never _ (bind-meets Own (flagged which pattern x s) _ (flagged-own which pattern x s) (λ t. fine _)) (bind-any IsMade (flagged which pattern x s) _ (λ t. made _))
effect_of-asking ed.Undo listed x target s = making-never (effect.undo s.past s) (undo-own s.past s)
effect_of-asking ed.Quit listed x target s = making-never (file.quit s) (quit-own s)
effect_of-asking verb listed x target s = never _ (fine _) (made _)

-- what a command did, once its suffix has written
completed-own : (c : Command) (s : State) (o : Outcome) → Meets Own (completed c s (Makes o))
completed-own c s o = bind-meets Own (suffix_written c.suffix o.state) _ (suffix-own c.suffix o.state) (λ more. fine _)

completed-made : (c : Command) (s : State) (o : Outcome) → Gives IsMade (completed c s (Makes o))
completed-made c s o = bind-any IsMade (suffix_written c.suffix o.state) _ (λ more. made _)

completed-once : (c : Command) (s : State) (e : Effect) → IsMade e → Gives IsMade (completed c s e)
completed-once c s (Asks r) is = absurd (is r refl)
completed-once c s (Makes o) is = completed-made c s o

-- its own faults are among those of an answer
own-answered : {A : Type 0} (r : Request) (a : Answer) (x : Result A Fault) → Meets Own x → Meets (Answered r a) x
own-answered r a x owns f is = own f (owns f is)

completed-heard : (c : Command) (s : State) (r : Request) (a : Answer) (e : Effect) → IsMade e → Meets (Answered r a) (completed c s e)
completed-heard c s r a (Asks q) is = absurd (is q refl)
completed-heard c s r a (Makes o) is = own-answered r a (completed c s (Makes o)) (completed-own c s o)

heard-after : (c : Command) (s : State) (r : Request) (a : Answer) (again : Result Effect Fault) → Gives IsMade again → Meets (Answered r a) again → Meets (Answered r a) (again >> completed c s)
heard-after c s r a (Ok e) once heard = completed-heard c s r a e (once e refl)
heard-after c s r a (Err f) once heard = meets (Answered r a) f (heard f refl)

-- the same of a command whose effect asks so
completed-asking : (c : Command) (s : State) (first : Result Effect Fault) (again : Answer → Result Effect Fault) → Asking first again → Asking (first >> completed c s) (λ a. again a >> completed c s)
completed-asking c s (Err f) again is = record {
  own = meets Own f (is.own f refl);
  heard = λ r asks. cc;
  once = λ a. bind-gives IsMade IsMade (again a) _ (is.once a) (λ e made. completed-once c s e made);
  unasked = λ unasked a. ap (λ e. e >> completed c s) (is.unasked (λ r same. cc) a);
}
completed-asking c s (Ok (Makes o)) again is = record {
  own = completed-own c s o;
  heard = λ r asks. absurd (completed-made c s o (Asks r) asks r refl);
  once = λ a. bind-gives IsMade IsMade (again a) _ (is.once a) (λ e made. completed-once c s e made);
  unasked = λ unasked a. ap (λ e. e >> completed c s) (is.unasked (λ r same. cc) a);
}
completed-asking c s (Ok (Asks r)) again is =
    asks r (λ a. again a >> completed c s)
    (λ a. heard-after c s r a (again a) (is.once a) (is.heard r refl a))
    (λ a. bind-gives IsMade IsMade (again a) _ (is.once a) (λ e made. completed-once c s e made))

pub command-asking : (s : State) (c : Command) → Asking (command s c None) (λ a. command s c (Some a))
command-asking s c =
    asking-after (placed c s) _ _ (placed-own c s) (λ p.
    completed-asking c s (effect_of c.verb c.listed p.span p.target p.state None) (λ a. effect_of c.verb c.listed p.span p.target p.state (Some a))
    (effect_of-asking c.verb c.listed p.span p.target p.state))

pub unasked_answers_do_nothing : UnaskedAnswersDoNothing
unasked_answers_do_nothing s c a unasked = (command-asking s c).unasked unasked a

pub nothing_is_asked_twice : NothingIsAskedTwice
nothing_is_asked_twice s c a r asked = (command-asking s c).once a (Asks r) asked r refl

unserved : (r : Request) (a : Answer) (f : Fault) → f ≡ fault.File → Answered r a f → serves r a ≡ false
unserved r a f is (own _ owns) = let k : false ≡ true = ap is_own (sym is) ∙ owns in absurd cc
unserved r a f is (refused not_served) = not_served

pub only_unserved_files_fail : OnlyUnservedFilesFail
only_unserved_files_fail s c r a asks fails = unserved r a fault.File refl ((command-asking s c).heard r asks a fault.File fails)
