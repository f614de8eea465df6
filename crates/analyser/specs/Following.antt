-- What follows from a start by the rules: what is known before each counted command and at the end, and the first need that fails.
use Rattle.std.specs.Prelude.{◌≡◌, ℕ, Bool, true, false, List, [], ◌∷◌, ◌++◌, length, Option, Some, None, is_some, if◌then◌else◌}
use Rattle.ed_base.specs.declared.fault.Fault.{Fault}
use Rattle.ed_base.specs.declared.fault.Fault.TheVariants as fault
use Rattle.ed_syntax.specs.Commands.{Command, Step, Script}
use Rattle.ed_syntax.specs.meaning.Verbs.{is_global}
use Rattle.ed_rules.specs.declared.state.State.{State}
use Rattle.ed_rules.specs.Choices.{Choice}
use Rattle.ed_rules.specs.States as states
use Rattle.ed_rules.specs.Files.{written_paths}
use Rattle.ed_rules.specs.Rules.{step, fault_of}
use Rattle.landmarks.specs.declared.landmark.Landmark.{Landmark}
use Rattle.landmarks.specs.ChainValues.{ChainValue}
use Rattle.cert_check.specs.declared.certificate.Version.{Version}
use Rattle.cert_check.specs.declared.certificate.Version.TheVariants as version
use Rattle.cert_check.specs.declared.sight.Sight.{Sight}
use Rattle.cert_check.specs.Certificates.{Looped, Note}
use Rattle.cert_check.specs.checker.Beginning.{landmarks_of, has_letters, letters_of_chains, began}
use Rattle.cert_check.specs.checker.Valid.{sight_of, told, are_met, left_by, left_after, entry_of}
use Rattle.analyser.specs.declared.analysis.Start.{Start}
use Rattle.analyser.specs.Rounds.{IsSettled, AreInner, InnerFail}

-- ONE COMMAND, of which a state comes in

-- What is known of its list, where no need of the command or of its list fails: nothing where it has none; else the invariant of the
-- last round, and what is known before each command of the list in that round. The first round's invariant is the state before the
-- first line is taken.
abbrev pub IsKnownOfList : Sight → (global : Bool) → Step → (coming : State) → Option Looped → Type 0
IsKnownOfList w false x s None = Unit {0}
IsKnownOfList w false x s (Some l) = ⊥
IsKnownOfList w true x s None = ⊥
IsKnownOfList w true x s (Some l) = IsSettled w x (left_by w x.command s) l.invariant × AreInner w x.list (entry_of w x l.invariant) l.inner

-- its note, where no need fails
pub record IsNote (w : Sight) (x : Step) (coming : State) (n : Note) : Type 0 where
  pub state : n.state ≡ coming
  pub met : are_met x.command coming ≡ true
  pub list : IsKnownOfList w (is_global x.command.verb) x coming n.looped

-- A need of its list fails, and the needs of the command hold: the invariant of the last round, and what is known before the list's
-- commands up to the one whose need fails, which is told by its number.
pub record ListFails (w : Sight) (inner : ℕ) (why : Fault) (x : Step) (coming : State) (l : Looped) : Type 0 where
  pub met : are_met x.command coming ≡ true
  pub global : is_global x.command.verb ≡ true
  pub settled : IsSettled w x (left_by w x.command coming) l.invariant
  pub states : InnerFail w why x.list (entry_of w x l.invariant) l.inner
  pub number : inner ≡ length l.inner

-- its first need that fails, by this fault: one of its own, or of its list
abbrev pub NeedFails : Sight → (inner : Option ℕ) → Fault → Step → (coming : State) → Option Looped → Type 0
NeedFails w None why x s None = fault_of (step [] x.command s) ≡ Some why
NeedFails w None why x s (Some l) = ⊥
NeedFails w (Some inner) why x s None = ⊥
NeedFails w (Some inner) why x s (Some l) = ListFails w inner why x s l

-- COMMANDS ONE AFTER ANOTHER, from the state on that comes in

-- Their notes, where no need fails: the first is of the state that comes in, each later one of the result of the command before it.
abbrev pub AreNotes : Sight → List Step → (coming : State) → List Note → Type 0
AreNotes w [] s [] = Unit {0}
AreNotes w [] s (n ∷ ns) = ⊥
AreNotes w (x ∷ xs) s [] = ⊥
AreNotes w (x ∷ xs) s (n ∷ ns) = IsNote w x s n × AreNotes w xs (left_after w n.looped x s) ns

-- their notes up to the command with the first need that fails, which is that of the last note
abbrev pub NotesFail : Sight → (inner : Option ℕ) → Fault → List Step → (coming : State) → List Note → Type 0
NotesFail w inner why [] s ns = ⊥
NotesFail w inner why (x ∷ xs) s [] = ⊥
NotesFail w inner why (x ∷ xs) s (n ∷ []) = (n.state ≡ s) × NeedFails w inner why x s n.looped
NotesFail w inner why (x ∷ xs) s (n ∷ m ∷ ns) = IsNote w x s n × NotesFail w inner why xs (left_after w n.looped x s) (m ∷ ns)

-- the result of the last command, by the notes
abbrev pub result_from : Sight → List Step → (coming : State) → List Note → State
result_from w [] s ns = s
result_from w (x ∷ xs) s [] = s
result_from w (x ∷ xs) s (n ∷ ns) = result_from w xs (left_after w n.looped x s) ns

-- the paths that the commands of a list may write, by what is known before each
abbrev pub list_paths : List Command → List State → List Choice
list_paths [] ss = []
list_paths (c ∷ cs) [] = []
list_paths (c ∷ cs) (s ∷ ss) = written_paths c.verb s ++ list_paths cs ss

abbrev pub looped_paths : List Command → Option Looped → List Choice
looped_paths list None = []
looped_paths list (Some l) = list_paths list l.inner

-- the paths that the commands may write, those of lists among them
abbrev pub paths_from : List Step → List Note → List Choice
paths_from [] ns = []
paths_from (x ∷ xs) [] = []
paths_from (x ∷ xs) (n ∷ ns) = (written_paths x.command.verb n.state ++ looped_paths x.list n.looped) ++ paths_from xs ns

-- A SCRIPT

-- Landmarks count where chains of them are given, maybe none, and the script leaves a letter for each.
unfoldable pub do_count : Script → (landmarks : Option (List ChainValue)) → Bool
do_count script None = false
do_count script (Some chains) = has_letters script (landmarks_of chains)

-- The version of the certificate that is asked for: where landmarks count, it tells of single lines; else, where a set of patterns is
-- given, even an empty one, it tells of matches.
abbrev pub version_by : (counts : Bool) → (has : Option (List (List ℕ))) → Version
version_by true has = version.Three
version_by false None = version.One
version_by false (Some has) = version.Two

abbrev pub version_of : Script → Start → Version
version_of script start = version_by (do_count script start.landmarks) start.has

-- the chains that count
abbrev pub chains_by : (counts : Bool) → (landmarks : Option (List ChainValue)) → List ChainValue
chains_by true None = []
chains_by true (Some chains) = chains
chains_by false landmarks = []

abbrev pub chains_of_start : Script → Start → List ChainValue
chains_of_start script start = chains_by (do_count script start.landmarks) start.landmarks

-- the patterns that some line of the start matches, as far as it is told
abbrev pub stated_of : (has : Option (List (List ℕ))) → List (List ℕ)
stated_of None = []
stated_of (Some has) = has

-- what a script is judged by, beside what is known
abbrev pub sight_over : Script → Start → Sight
sight_over script start = sight_of script (version_of script start) (stated_of start.has)

-- a state that knows of the landmarks too that count
unfoldable pub knowing : Script → Start → State → State
knowing script start s =
    let chains : List (List Landmark) = landmarks_of (chains_of_start script start) in
    began (version_of script start) (letters_of_chains script chains) chains s

-- what is known at the start, as far as it is told
abbrev pub begun : Script → Start → State
begun script start =
    told (sight_over script start) (knowing script start (states.start start.path start.min start.max (stated_of start.has)))

-- A script without `q` and `Q` ends by a `q`: what can't be read is reached then, and no change may be left.
abbrev pub end_fault : (quit : Bool) → (bad : Option ℕ) → State → Option Fault
end_fault quit bad s = if quit then None else if is_some bad then Some fault.Syntax else if s.changed.yes then Some fault.Unsaved else None
