-- The patterns that the searches of a command look for and that no line need match, and where it helps to state them (our own).
use Rattle.std.specs.Prelude.{◌≡◌, ◌≢◌, ◌<◌, ◌-◌, ◌⊎◌, ℕ, Bool, true, false, not, ◌&&◌, ◌||◌, ◌==◌, nat_le, List, [], ◌∷◌, length, All, Option, Some, None, slice_get, if◌then◌else◌}
use Rattle.std.specs.List.{filter, filter_map, flat_map, list_all, list_any}
use Rattle.std.specs.Option.{unwrap_or}
use Rattle.std.specs.Char.{is_control}
use Rattle.std.specs.Str.{IsUtf8, chars}
use Rattle.bre_parse.specs.Always.{text_is_always}
use Rattle.ed_base.specs.declared.fault.Fault.{Fault}
use Rattle.ed_base.specs.declared.fault.Fault.TheVariants as fault
use Rattle.ed_syntax.specs.Commands as ed
use Rattle.ed_syntax.specs.Commands.{Base, Address, Addresses, Without, One, Comma, Semicolon, Command, Step, Script}
use Rattle.ed_syntax.specs.meaning.Verbs.{takes}
use Rattle.ed_rules.specs.declared.state.State.{State}
use Rattle.ed_rules.specs.Texts.{is_member, with_texts}
use Rattle.ed_rules.specs.Following.{is_followed}
use Rattle.cert_check.specs.declared.checker.verdict.Place.{Place}
use Rattle.cert_check.specs.Certificates.{Looped, Note}
use Rattle.analyser.specs.declared.analysis.Start.{Start}
use Rattle.analyser.specs.Following.{stated_of}
use Rattle.hints.specs.declared.hidden.TheConstants.{HIDDEN}
use Rattle.hints.specs.Passing.{GetsPast, MoreLinesHelp, most_of}

-- WHAT IS LOOKED FOR

-- the first and the second address before a command, where there is one
abbrev pub first_of : Addresses → Option Address
first_of Without = None
first_of (One a) = Some a
first_of (Comma a b) = Some a
first_of (Semicolon a b) = Some a

abbrev pub second_of : Addresses → Option Address
second_of Without = None
second_of (One a) = None
second_of (Comma a b) = Some b
second_of (Semicolon a b) = b

-- what an address searches for, where it is a search: its own pattern, or the remembered one
abbrev pub search_from : Base → Option (Option (List ℕ))
search_from (ed.Forward pattern) = Some pattern
search_from (ed.Backward pattern) = Some pattern
search_from _ = None

abbrev pub search_at : Option Address → Option (Option (List ℕ))
search_at None = None
search_at (Some a) = search_from a.base

-- the searches of a command, in the order in which its addresses are evaluated: the target comes last
abbrev pub searches : Command → List (Option (List ℕ))
searches c = filter_map search_at (first_of c.addresses ∷ second_of c.addresses ∷ (takes c.verb).target ∷ [])

-- What each of these searches may look for, where these are the patterns that may be remembered before them: its own pattern, which then
-- is the remembered one, or else those.
abbrev pub looked_for : (remembered : List (List ℕ)) → List (Option (List ℕ)) → List (List (List ℕ))
looked_for remembered [] = []
looked_for remembered (Some text ∷ later) = (text ∷ []) ∷ looked_for (text ∷ []) later
looked_for remembered (None ∷ later) = remembered ∷ looked_for remembered later

-- the set of the patterns that may be remembered
abbrev pub remembered : State → List (List ℕ)
remembered s = with_texts (filter_map (λ choice. choice) s.patterns) []

-- no line need match the pattern: it isn't one that some line is known to match, nor one that a line matches which is followed, nor one that
-- every line matches
abbrev pub is_unmatched : State → (text : List ℕ) → Bool
is_unmatched s text = not (is_member s.matches.has text || is_followed s text || text_is_always text)

-- the set of those that a command's searches may look for and that no line need match
abbrev pub unmatched : Command → State → List (List ℕ)
unmatched c s = with_texts (flat_map (filter (is_unmatched s)) (looked_for (remembered s) (searches c))) []

-- AT A PLACE

-- the command at a place; those of a list count from 1 too
abbrev pub command_inside : Option ℕ → Option Step → Option Command
command_inside inner None = None
command_inside None (Some x) = Some x.command
command_inside (Some inner) (Some x) = slice_get x.list (inner - 1)

abbrev pub command_at : Script → Place → Option Command
command_at script place = command_inside place.inner (slice_get script.steps (place.command - 1))

-- what is known before the last command of a list of which that is noted
abbrev pub last_known : Option Looped → Option State
last_known None = None
last_known (Some l) = slice_get l.inner (length l.inner - 1)

-- What is known before the command at a place where a need fails: by the note of the command; of a list, before the last command of which
-- that is noted, since its notes end where a need fails.
abbrev pub known_inside : Option ℕ → Option Note → Option State
known_inside inner None = None
known_inside None (Some n) = Some n.state
known_inside (Some inner) (Some n) = last_known n.looped

abbrev pub known_at : Place → List Note → Option State
known_at place notes = known_inside place.inner (slice_get notes (place.command - 1))

-- the faults of a search that finds no line, or one that is out of the way
abbrev pub is_of_search : Fault → Bool
is_of_search fault.NoMatch = true
is_of_search fault.Address = true
is_of_search _ = false

abbrev pub unmatched_by : Option Command → Option State → List (List ℕ)
unmatched_by None s = []
unmatched_by (Some c) None = []
unmatched_by (Some c) (Some s) = unmatched c s

-- The patterns to state where a script fails at a place by a fault, by what is known: those that the command's searches may look for and
-- that no line need match. Of another fault than that of a search there are none.
abbrev pub to_state : Script → Place → Fault → List Note → List (List ℕ)
to_state script place why notes = if is_of_search why then unmatched_by (command_at script place) (known_at place notes) else []

-- WHERE IT HELPS TO STATE THEM

-- a character that nobody can see, or that is taken for another one: it lies in one of these ranges
unfoldable pub is_hidden : ℕ → Bool
is_hidden c = list_any (λ range. nat_le range.0 c && nat_le c range.1) HIDDEN

-- a character that a line shows: none that is hidden, and no control character but the tab
abbrev pub is_shown : ℕ → Bool
is_shown c = not (is_control c || is_hidden c) || c == 9

-- a text that a person can type in one line
abbrev pub IsTypable : List ℕ → Type 0
IsTypable text = IsUtf8 text × (list_all is_shown (chars text) ≡ true)

-- The script gets past a command with all of its list: past each place in it, however many there are. Of a command of a list, it gets past
-- that one alone.
abbrev pub GetsPastAll : Script → Start → Place → Type 0
GetsPastAll script start place = (inner : ℕ) → GetsPast script start (record { command = place.command; inner = Some (unwrap_or place.inner inner) })

-- a start that states these patterns too
abbrev pub stating : Start → List (List ℕ) → Start
stating start patterns = record { path = start.path; min = start.min; max = start.max; has = Some (with_texts patterns (stated_of start.has)); landmarks = start.landmarks }

-- It helps to state these patterns: there are some, there may be a line, each can be typed, and over the start that states them too the script
-- gets past the place with all of the command's list, or more lines help.
pub record StatingHelps (script : Script) (start : Start) (place : Place) (patterns : List (List ℕ)) : Type 0 where
  pub some : patterns ≢ []
  pub room : 0 < most_of start.max
  pub typable : All IsTypable patterns
  pub past : GetsPastAll script (stating start patterns) place ⊎ MoreLinesHelp script (stating start patterns)
