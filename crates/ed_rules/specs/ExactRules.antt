-- What the rules know of exact commands.
use Rattle.std.specs.Prelude.{◌≡◌, ◌≤◌, ◌==◌, ℕ, pos, Bool, true, false, nat_lt, List, [], ◌∷◌, length, Some, Result, Ok, Err, if◌then◌else◌}
use Rattle.ed_base.specs.declared.fault.Fault.{Fault}
use Rattle.zones.specs.Name.{current_line, last_line}
use Rattle.zones.specs.Zone.{Numbers}
use Rattle.zones.specs.Differences.{Fixes}
use Rattle.ed_syntax.specs.declared.request.Answer.TheVariants as answer
use Rattle.ed_syntax.specs.Commands.{Command}
use Rattle.ed_syntax.specs.meaning.States as editor
use Rattle.ed_syntax.specs.meaning.Effects.{Effect, Makes, Asks}
use Rattle.ed_syntax.specs.meaning.Applied.{command}
use Rattle.ed_rules.specs.declared.state.Changed.{Changed}
use Rattle.ed_rules.specs.declared.state.State.{State}
use Rattle.ed_rules.specs.Choices.{Choice}
use Rattle.ed_rules.specs.Marks.{no_marks}
use Rattle.ed_rules.specs.States.{unchanged, changed, start}
use Rattle.ed_rules.specs.Rules.{step}
use Rattle.ed_rules.specs.LineBounds.{most_lines}
use Rattle.ed_rules.specs.Exact.{is_exact}

-- the name is zero, the current line or the last line
abbrev pub is_of_buffer : ℕ → Bool
is_of_buffer x = nat_lt x 3

-- the numbers of these in an editor
abbrev pub numbers_of : editor.State → Numbers
numbers_of e x = if x == current_line then pos e.current else if x == last_line then pos (length e.lines) else pos 0

-- what is known where the buffer is surely changed, and where it surely isn't
abbrev pub flag_of : Bool → Changed
flag_of is_changed = if is_changed then changed else unchanged

-- A state tells an editor's number of lines, its current line, its path and whether the buffer is changed: of these it allows no others.
pub record Tells (s : State) (e : editor.State) : Type 0 where
  pub zone : Fixes s.zone is_of_buffer (numbers_of e)
  pub marks : s.marks ≡ no_marks
  pub names : s.names ≡ e.name ∷ []
  pub changed : s.changed ≡ flag_of e.changed
  pub inside : e.current ≤ length e.lines
  pub few : length e.lines ≤ most_lines

-- both give a value, and the two are related, or both meet the same fault
abbrev pub EndAlike : {A B : Type 0} → (A → B → Type 0) → Result A Fault → Result B Fault → Type 0
EndAlike R (Ok a) (Ok b) = R a b
EndAlike R (Ok a) (Err g) = ⊥
EndAlike R (Err f) (Ok b) = ⊥
EndAlike R (Err f) (Err g) = f ≡ g

-- a command that has its answer leaves an editor that the state after its rule tells
abbrev pub LeavesTold : State → Effect → Type 0
LeavesTold t (Makes o) = Tells t o.state
LeavesTold t (Asks r) = ⊥

-- it leaves no more lines than a certificate tells of
abbrev pub LeavesFew : Result Effect Fault → Type 0
LeavesFew (Ok (Makes o)) = length o.state.lines ≤ most_lines
LeavesFew _ = Unit {0}

-- Of an exact command and a state that tells the editor's: a need fails just where the command, each write being done, meets a fault, and
-- by that fault; else the state after its rule tells what it leaves.
abbrev pub CommandIsExact : Type 0
CommandIsExact = (watched : List (List ℕ)) (c : Command) (s : State) (e : editor.State) → is_exact c ≡ true → Tells s e →
    LeavesFew (command e c (Some answer.Done)) → EndAlike LeavesTold (step watched c s) (command e c (Some answer.Done))

-- the start with so many lines tells each editor that was just opened over them
abbrev pub StartIsExact : Type 0
StartIsExact = (path : Choice) (lines : ℕ) (has : List (List ℕ)) (e : editor.State) → e.name ≡ path → length e.lines ≡ lines → e.current ≡ lines →
    e.changed ≡ false → lines ≤ most_lines → Tells (start path lines (Some lines) has) e
