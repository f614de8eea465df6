-- What a hint promises (our own).
use Rattle.std.specs.Prelude.{◌≡◌, ◌+◌, ◌-◌, ◌<◌, ◌⊎◌, ℕ, List, [], ◌∷◌, ◌++◌, false, Option, Some, is_some, length, Any}
use Rattle.ed_base.specs.declared.fault.Fault.{Fault}
use Rattle.ed_syntax.specs.Commands.{Script}
use Rattle.ed_syntax.specs.Changed.{BeginAlike, IsChangedAt, IsReadFurther}
use Rattle.ed_syntax.specs.reading.Reading.{script_of}
use Rattle.cert_check.specs.declared.checker.verdict.Place.{Place}
use Rattle.cert_check.specs.Certificates.{Note}
use Rattle.analyser.specs.declared.analysis.Start.{Start}
use Rattle.hints.specs.declared.hint.Change.{Change}
use Rattle.hints.specs.declared.hint.Hint.{Hint}
use Rattle.hints.specs.Passing.{IsAllowed, IsVouched, with_min, Keeps, GetsPastWhole, last_of}
use Rattle.hints.specs.Sought.{to_state, stating, StatingHelps}
use Rattle.hints.specs.Nowhere.{IsNowhere}
use Rattle.hints.specs.Landmarks.{StatesLandmarks}

-- HOW A HINT'S SCRIPT COMES FROM THE ONE THAT IS REFUSED

-- No command is changed, and one is got past: that at the place.
pub record IsUnchanged (place : Place) (past : ℕ) (c : Change) : Type 0 where
  pub kept : c.kept ≡ place.command - 1
  pub removed : c.removed ≡ 0
  pub written : c.written ≡ 0
  pub one : past ≡ 1

-- Some commands from the place on are taken away, others stand in their stead, and just these are got past. All others are the same. Where
-- none stand there, one is taken away.
pub record IsChanged (place : Place) (old new : Script) (past : ℕ) (c : Change) : Type 0 where
  pub changed : IsChangedAt c.kept c.removed c.written old new
  pub kept : c.kept ≡ place.command - 1
  pub all : past ≡ c.written
  pub some : (0 < c.written) ⊎ (c.removed ≡ 1)

-- The place is where the old script can't be read. The new one has all of its commands; what it has after them is written.
pub record IsFurther (place : Place) (old new : Script) (c : Change) : Type 0 where
  pub further : IsReadFurther old new
  pub front : c.kept ≡ length old.steps
  pub kept : c.kept ≡ place.command - 1
  pub removed : c.removed ≡ 0
  pub written : c.kept + c.written ≡ length new.steps

-- The place is the end of the old script. The new one has two commands or more in the stead of its last one, as where a text ends earlier by
-- its period and the lines after that are commands.
pub record IsClosed (place : Place) (old new : Script) (c : Change) : Type 0 where
  pub alike : BeginAlike c.kept old new
  pub readable : is_some old.fault ≡ false
  pub last : c.kept + 1 ≡ length old.steps
  pub end : place.command ≡ c.kept + 2
  pub removed : c.removed ≡ 1
  pub written : c.kept + c.written ≡ length new.steps
  pub more : 1 < c.written

-- The script of a hint comes from the one that is refused at a place: it is the same, or another one that is changed in one of these three
-- ways. Where the old one can't be read at the place and no command is written there, the new one has fewer bytes.
pub data IsFrom (place : Place) (old new : List ℕ) (past : ℕ) (c : Change) : Type 0 where
  same : new ≡ old → IsUnchanged place past c → IsFrom place old new past c
  changed : (new ≡ old → ⊥) → IsChanged place (script_of old) (script_of new) past c → IsFrom place old new past c
  further : IsFurther place (script_of old) (script_of new) c → (0 < c.written) ⊎ (length new < length old) → IsFrom place old new past c
  closed : IsClosed place (script_of old) (script_of new) c → IsFrom place old new past c

-- A script reads on where another one can't be read to its end: it has all commands of that one up to there, and more commands, or fewer bytes.
pub record ReadsOn (old new : List ℕ) : Type 0 where
  pub further : IsReadFurther (script_of old) (script_of new)
  pub more : (length (script_of old).steps < length (script_of new).steps) ⊎ (length new < length old)

-- The start of a hint has the landmarks of the one that is refused. Or it states others beside them, each of which is needed, and the script is
-- the refused one, which is vouched for with them.
abbrev pub IsMarked : (old : List ℕ) → (given : Start) → (new : List ℕ) → Start → Type 0
IsMarked old given new start = (start.landmarks ≡ given.landmarks) ⊎ ((new ≡ old) × StatesLandmarks (script_of old) given start)

-- it isn't seen that no file has the landmarks of a start, unless it is seen of the one that was given
abbrev pub StaysSomewhere : (given start : Start) → Type 0
StaysSomewhere given start = IsNowhere start → IsNowhere given

-- A hint on a script over a start was tried: the script as it reads by it, over the start that it names, gets past as many commands from the
-- place on as the hint tells, the last of them with all of its list. Of none, it gets past those before the place. It comes from the first
-- script by the change that the hint tells. That start keeps the path of the first one and the
-- patterns that it states, and asks for no other number of lines than that one allows. It states no other landmarks than that one but those that
-- are needed, and none of which it is seen that no file of so many lines has them.
pub record IsTried (script : List ℕ) (start : Start) (place : Place) (h : Hint) : Type 0 where
  pub from : IsFrom place script h.script h.past h.change
  pub kept : Keeps start h.start
  pub marked : IsMarked script start h.script h.start
  pub somewhere : StaysSomewhere start h.start
  pub allowed : IsAllowed h.start
  pub past : GetsPastWhole (script_of h.script) h.start (last_of place h.past)

-- A hint asks for more lines at least, with which the script is vouched for as it is. With one line less it isn't.
pub record AsksForMore (script : List ℕ) (start : Start) (h : Hint) : Type 0 where
  pub same : h.script ≡ script
  pub min : ℕ
  pub more : start.min < min
  pub asks : h.start ≡ with_min start min
  pub vouched : IsVouched (script_of script) (with_min start min)
  pub least : IsVouched (script_of script) (with_min start (min - 1)) → ⊥

-- a hint states these patterns: the script stays as it is, and its start states them beside those that are stated
pub record States (script : List ℕ) (start : Start) (patterns : List (List ℕ)) (h : Hint) : Type 0 where
  pub same : h.script ≡ script
  pub has : h.start.has ≡ (stating start patterns).has

-- one of the hints states the patterns to state, where that helps
abbrev pub IsStated : (script : List ℕ) → Start → Place → Fault → List Note → List Hint → Type 0
IsStated script start place why notes hints =
    let patterns = to_state (script_of script) place why notes in
    StatingHelps (script_of script) start place patterns → Any (States script start patterns) hints
