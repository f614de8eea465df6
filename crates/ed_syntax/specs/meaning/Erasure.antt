-- What names a letter, an editor from which a letter is taken off, and lines on which letters are put.
use Rattle.std.specs.Prelude.{ℕ, ◌≢◌, Bool, false, ◌||◌, List, [], ◌∷◌, map, All, Option, Some, None, option_map, nat_eq}
use Rattle.std.specs.List.{list_any}
use Rattle.ed_base.specs.Buffer.{Line, with_letter, marked_at}
use Rattle.ed_syntax.specs.Commands as ed
use Rattle.ed_syntax.specs.Commands.{Base, Address, Addresses, Without, One, Comma, Semicolon, Verb, Command, Step, Script}
use Rattle.ed_syntax.specs.meaning.Verbs.{takes}
use Rattle.ed_syntax.specs.meaning.States.{State, Kept, Past, Nothing, Same, Was, Open}
use Rattle.ed_syntax.specs.meaning.Effects.{Outcome, Effect, Makes, Asks}
use Rattle.ed_syntax.specs.meaning.Progress.{Present}

-- a base names the letter of its mark
abbrev pub base_names : (letter : ℕ) → Base → Bool
base_names letter (ed.Marked own) = nat_eq own letter
base_names letter _ = false

-- an address names what its base names
abbrev pub address_names : (letter : ℕ) → Address → Bool
address_names letter a = base_names letter a.base

-- one of some addresses names a letter
abbrev pub addresses_name : (letter : ℕ) → Addresses → Bool
addresses_name letter Without = false
addresses_name letter (One a) = address_names letter a
addresses_name letter (Comma a b) = address_names letter a || address_names letter b
addresses_name letter (Semicolon a None) = address_names letter a
addresses_name letter (Semicolon a (Some b)) = address_names letter a || address_names letter b

-- a target names a letter, where there is one
abbrev pub target_names : (letter : ℕ) → Option Address → Bool
target_names letter None = false
target_names letter (Some a) = address_names letter a

-- `k` names the letter that marks
abbrev pub marks_with : (letter : ℕ) → Verb → Bool
marks_with letter (ed.Mark own) = nat_eq own letter
marks_with letter _ = false

-- a command names a letter by its addresses, by its target or as `k`
abbrev pub command_names : (letter : ℕ) → Command → Bool
command_names letter c = addresses_name letter c.addresses || (target_names letter (takes c.verb).target || marks_with letter c.verb)

-- a step of a script names a letter, itself or in its list
abbrev pub step_names : (letter : ℕ) → Step → Bool
step_names letter x = command_names letter x.command || list_any (command_names letter) x.list

-- one of the steps of a script names a letter
abbrev pub script_names : (letter : ℕ) → Script → Bool
script_names letter script = list_any (step_names letter) script.steps

-- lines without a letter
abbrev pub lines_without : (letter : ℕ) → List Line → List Line
lines_without letter lines = map (with_letter letter false) lines

-- what undo keeps, without a letter
abbrev pub kept_without : (letter : ℕ) → Kept → Kept
kept_without letter kept = record kept { lines = lines_without letter kept.lines }

-- what undo would bring back, without a letter
abbrev pub past_without : (letter : ℕ) → Past → Past
past_without letter Nothing = Nothing
past_without letter Same = Same
past_without letter (Was before) = Was (kept_without letter before)

-- a global command whose list is run, and that began without a letter
abbrev pub open_without : (letter : ℕ) → Open → Open
open_without letter g = record g { before = kept_without letter g.before }

-- an editor without a letter: neither in its lines nor in those that undo and an open global command keep
abbrev pub state_without : (letter : ℕ) → State → State
state_without letter s = record s {
  lines = lines_without letter s.lines;
  past = past_without letter s.past;
  global = option_map (open_without letter) s.global;
}

-- what a command leaves, without a letter
abbrev pub outcome_without : (letter : ℕ) → Outcome → Outcome
outcome_without letter o = record o { state = state_without letter o.state }

-- an effect without a letter: a file that is asked for stays the same
abbrev pub effect_without : (letter : ℕ) → Effect → Effect
effect_without letter (Makes o) = Makes (outcome_without letter o)
effect_without letter (Asks r) = Asks r

-- a run's present without a letter
abbrev pub present_without : (letter : ℕ) → Present → Present
present_without letter m = record m { state = state_without letter m.state }

-- each of these letters taken off the lines
abbrev pub lines_without_all : (letters : List ℕ) → List Line → List Line
lines_without_all [] lines = lines
lines_without_all (letter ∷ letters) lines = lines_without letter (lines_without_all letters lines)

-- an editor without each of these letters
abbrev pub state_without_all : (letters : List ℕ) → State → State
state_without_all [] s = s
state_without_all (letter ∷ letters) s = state_without letter (state_without_all letters s)

-- a run's present without each of these letters
abbrev pub present_without_all : (letters : List ℕ) → Present → Present
present_without_all letters m = record m { state = state_without_all letters m.state }

-- the steps of a script name one of these letters
abbrev pub steps_name : (letters : List ℕ) → List Step → Bool
steps_name letters xs = list_any (λ letter. list_any (step_names letter) xs) letters

-- letters, each with the place of the line that it is to mark, counted from 0
abbrev pub Marks : Type 0
Marks = List (ℕ × ℕ)

-- their letters
abbrev pub letters_of : Marks → List ℕ
letters_of marks = map (λ mark. mark.0) marks

-- lines on which these marks are set, the last one first
abbrev pub marked : Marks → List Line → List Line
marked [] lines = lines
marked (mark ∷ marks) lines = marked_at mark.1 mark.0 (marked marks lines)

-- no letter is there twice
abbrev pub AreApart : Marks → Type 0
AreApart [] = Unit {0}
AreApart (mark ∷ marks) = All (λ other. other.0 ≢ mark.0) marks × AreApart marks
