-- Which certificates are valid for a script: the checks in their order, each with its place.
use Rattle.std.specs.Prelude.{ℕ, ◌+◌, ◌==◌, pos, neg_ℤ, Bool, true, false, not, ◌&&◌, ◌||◌, List, [], ◌∷◌, length, Option, Some, None, is_none, is_some, if◌then◌else◌, Ok, Err, nat_eq}
use Rattle.std.specs.List.{list_all, list_any}
use Rattle.std.specs.Cmp.Lexicographic.{pointwise}
use Rattle.zones.specs.Name as name
use Rattle.zones.specs.Name.{last_line}
use Rattle.zones.specs.Zone.{Bounds}
use Rattle.zones.specs.Known.{known}
use Rattle.ed_syntax.specs.Commands.{Command, Step, Script}
use Rattle.ed_syntax.specs.meaning.Verbs.{is_global, ends_run}
use Rattle.ed_rules.specs.declared.state.State.{State}
use Rattle.ed_rules.specs.Choices.{Choice}
use Rattle.ed_rules.specs.States.{without_facts}
use Rattle.ed_rules.specs.Files.{written_paths}
use Rattle.ed_rules.specs.Matched.{watched}
use Rattle.ed_rules.specs.KnownMatches.{no_matches}
use Rattle.cert_check.specs.checker.Covering.{covers}
use Rattle.cert_check.specs.checker.Beginning.{chains_of, has_letters, start_of}
use Rattle.cert_check.specs.checker.InForm.{state_in_form}
use Rattle.ed_rules.specs.Rules.{step, fault_of}
use Rattle.ed_rules.specs.Globals.{body_entry, once_entry, loop_end}
use Rattle.cert_check.specs.declared.checker.verdict.Place.{Place}
use Rattle.cert_check.specs.declared.checker.verdict.Verdict.{Verdict}
use Rattle.cert_check.specs.declared.checker.verdict.Verdict.TheVariants.{Accepted, Refused}
use Rattle.cert_check.specs.declared.certificate.Version.{Version}
use Rattle.cert_check.specs.declared.certificate.Version.TheVariants as version
use Rattle.cert_check.specs.declared.sight.Sight.{Sight}
use Rattle.cert_check.specs.Certificates.{Looped, Note, Certificate}

-- a check: where it stands, and whether it holds
pub record Check : Type 0 where
  pub place : Place
  pub holds : Bool

abbrev pub at_place : Place → Bool → Check
at_place place holds = record { place = place; holds = holds }

-- at a command, by its number; at 0 it is one of the shape
abbrev pub command_at : (number : ℕ) → Place
command_at number = record { command = number; inner = None }

-- at a command of a global command's list, by both numbers; one past the list it is of what the list leaves
abbrev pub inner_at : (number inner : ℕ) → Place
inner_at number inner = record { command = number; inner = Some inner }

abbrev pub at : (number : ℕ) → Bool → Check
at number holds = at_place (command_at number) holds

-- the first check that fails is the one that is told
abbrev pub verdict_of : List Check → Verdict
verdict_of [] = Accepted
verdict_of (check ∷ later) = elim check.holds [ true ↦ verdict_of later | false ↦ Refused check.place ]

-- some command ends the run
abbrev pub has_quit : List Step → Bool
has_quit steps = list_any (λ x. ends_run x.command.verb) steps

-- the counted commands: those up to the first that ends the run, or all
abbrev pub counted : List Step → List Step
counted [] = []
counted (x ∷ xs) = x ∷ (elim (ends_run x.command.verb) [ true ↦ [] | false ↦ counted xs ])

-- What a script is judged by, beside what is known: the version of its certificate, and the patterns that are watched for, those that the
-- certificate states of its start among them. Version 1 watches for none, and version 3 for those of `s`, `g` and `v` too.
abbrev pub sight_of : Script → Version → (has : List (List ℕ)) → Sight
sight_of script version.One has = record { version = version.One; watch = [] }
sight_of script version.Two has = record { version = version.Two; watch = watched false script has }
sight_of script version.Three has = record { version = version.Three; watch = watched true script has }

abbrev pub seen_by : Script → Certificate → Sight
seen_by script c = sight_of script c.version c.has

-- A state that a rule gives, as far as the version tells it: version 1 tells nothing of matches, and versions 1 and 2 tell nothing of single
-- lines, which they don't follow. Version 3 tells all that can be written: the facts are put in form.
abbrev pub told_by : Version → State → State
told_by version.One s = record (without_facts s) { matches = no_matches }
told_by version.Two s = without_facts s
told_by version.Three s = state_in_form s

abbrev pub told : Sight → State → State
told w s = told_by w.version s

-- All needs of a command hold. Which patterns are watched makes no difference to them.
unfoldable pub are_met : Command → State → Bool
are_met c s = is_none (fault_of (step [] c s))

-- the state after a command; where a need fails it doesn't matter
unfoldable pub left_by : Sight → Command → State → State
left_by w c s = told w (elim (step w.watch c s) [ Ok t ↦ t | Err f ↦ s ])

-- a path that may be written is among those that are listed; where there is none, nothing is written
abbrev pub is_listed : (writes : List (List ℕ)) → Choice → Bool
is_listed writes None = true
is_listed writes (Some path) = list_any (λ listed. pointwise nat_eq listed path) writes

-- each path that a command may write in a state is listed
abbrev pub are_listed : (writes : List (List ℕ)) → Command → State → Bool
are_listed writes c s = list_all (is_listed writes) (written_paths c.verb s)

-- at most so many lines are known, where there is a limit
unfoldable pub knows_most : Bounds → Option ℕ → Bool
knows_most zone None = true
knows_most zone (Some high) = known zone last_line name.zero (pos high)

-- at least so many lines are known
unfoldable pub knows_least : Bounds → ℕ → Bool
knows_least zone low = known zone name.zero last_line (neg_ℤ (pos low))

-- The checks of the end, of which a state comes in. A script without `q` and `Q` ends by a `q`: all of it can be read, and there is
-- no change that wasn't written.
abbrev pub end_checks : (quit : Bool) → (fault : Option ℕ) → Certificate → (number : ℕ) → (coming : State) → List Check
end_checks quit fault c number coming =
    at number (quit || is_none fault) ∷ at number (covers c.last coming) ∷ at number (quit || not c.last.changed.yes)
    ∷ at number (knows_least c.last.zone c.low) ∷ at number (knows_most c.last.zone c.high) ∷ []

-- The checks of a command at its place, of which a state comes in, and those after it: the state that is known before it says no more
-- than what comes in, the needs of the command hold, and the paths that it may write are listed.
abbrev pub command_checks : Place → (writes : List (List ℕ)) → Command → (known coming : State) → (later : List Check) → List Check
command_checks place writes c known coming later =
    at_place place (covers known coming) ∷ at_place place (are_met c known) ∷ at_place place (are_listed writes c known) ∷ later

-- the checks of the commands of a list from one on, of which a state comes in, and those of what the list leaves
abbrev pub list_checks : Sight → (number inner : ℕ) → (writes : List (List ℕ)) → (coming : State) → List Command → List State → (turned : ℕ → State → List Check) → List Check
list_checks w number inner writes coming [] states turned = turned inner coming
list_checks w number inner writes coming (c ∷ cs) [] turned = turned inner coming
list_checks w number inner writes coming (c ∷ cs) (s ∷ states) turned =
    command_checks (inner_at number inner) writes c s coming (list_checks w number (inner + 1) writes (left_by w c s) cs states turned)

-- The state in which a list is run, where it is known by the invariant that it is run for one line alone. Versions 1 and 2, which tell
-- nothing of single lines, don't ask.
abbrev pub once_by : Version → Command → (invariant : State) → Option State
once_by version.One c invariant = None
once_by version.Two c invariant = None
once_by version.Three c invariant = once_entry c invariant

abbrev pub runs_once : Sight → Step → (invariant : State) → Bool
runs_once w x invariant = is_some (once_by w.version x.command invariant)

-- the state in which a list is run for a line, as far as it is told
abbrev pub entry_of : Sight → Step → (invariant : State) → State
entry_of w x invariant =
    told w (elim (once_by w.version x.command invariant) as (λ _. State) [ None ↦ body_entry x.command.verb invariant | Some entry ↦ entry ])

-- what a list leaves, by what is known before each of its commands
abbrev pub left_by_inner : Sight → List Command → List State → (coming : State) → State
left_by_inner w [] states coming = coming
left_by_inner w (c ∷ cs) [] coming = coming
left_by_inner w (c ∷ cs) (s ∷ states) coming = left_by_inner w cs states (left_by w c s)

-- what is known after the last line: what is known at every turn, or what the list leaves where it is run once
abbrev pub after_turns : Sight → Step → Looped → State
after_turns w x l = if runs_once w x l.invariant then left_by_inner w x.list l.inner (entry_of w x l.invariant) else l.invariant

-- the check of what the list leaves, and those after it: of a list that is run once nothing is asked
abbrev pub turn_checks : (once : Bool) → Place → (invariant turned : State) → (later : List Check) → List Check
turn_checks true place invariant turned later = later
turn_checks false place invariant turned later = at_place place (covers invariant turned) ∷ later

-- The checks of what is known of a list, and those after it: the invariant says no more than the state before the first line is taken,
-- and no more than what the list leaves of the state in which it is run for a line, unless it is run once.
abbrev pub loop_checks : Sight → (number : ℕ) → (writes : List (List ℕ)) → Step → Looped → (start : State) → (later : List Check) → List Check
loop_checks w number writes x l start later =
    at number (covers l.invariant start)
    ∷ list_checks w number 1 writes (entry_of w x l.invariant) x.list l.inner
    (λ inner turned. turn_checks (runs_once w x l.invariant) (inner_at number inner) l.invariant turned later)

-- a global command has a list, of which something is known; all others have none
abbrev pub looped_checks : Sight → Option Looped → (number : ℕ) → (writes : List (List ℕ)) → Step → (known : State) → (later : List Check) → List Check
looped_checks w None number writes x known later = later
looped_checks w (Some l) number writes x known later = loop_checks w number writes x l (left_by w x.command known) later

-- the state after a step
abbrev pub left_after : Sight → Option Looped → Step → (known : State) → State
left_after w None x known = left_by w x.command known
left_after w (Some l) x known = told w (loop_end x known (after_turns w x l))

-- the checks of a step with its note, of which a state comes in, and those after it
abbrev pub step_checks : Sight → (number : ℕ) → (writes : List (List ℕ)) → Step → Note → (coming : State) → (later : List Check) → List Check
step_checks w number writes x n coming later =
    command_checks (command_at number) writes x.command n.state coming (looped_checks w n.looped number writes x n.state later)

-- the checks of the steps from one on, of which a state comes in, and those of the end
abbrev pub checks_from : Sight → (writes : List (List ℕ)) → (end : ℕ → State → List Check) → (number : ℕ) → (coming : State) → List Step → List Note → List Check
checks_from w writes end number coming [] notes = end number coming
checks_from w writes end number coming (x ∷ xs) [] = end number coming
checks_from w writes end number coming (x ∷ xs) (n ∷ notes) =
    step_checks w number writes x n coming (checks_from w writes end (number + 1) (left_after w n.looped x n.state) xs notes)

-- something is known of a list just where a command is global, and before each command of it
abbrev pub fits_list : (global : Bool) → List Command → Option Looped → Bool
fits_list global list None = not global
fits_list global list (Some l) = global && (length l.inner == length list)

abbrev pub fits : Step → Note → Bool
fits x n = fits_list (is_global x.command.verb) x.list n.looped

-- the shape of the notes: one for each counted command, and with a list where that has one
abbrev pub are_shaped : List Step → List Note → Bool
are_shaped [] [] = true
are_shaped [] (n ∷ notes) = false
are_shaped (x ∷ xs) [] = false
are_shaped (x ∷ xs) (n ∷ notes) = fits x n && are_shaped xs notes

-- all checks of a certificate: the shape of its notes, a letter for each landmark, and what follows from the start
abbrev pub checks : Script → Certificate → List Check
checks script c =
    let w = seen_by script c in
    at 0 (are_shaped (counted script.steps) c.notes) ∷ at 0 (has_letters script (chains_of c))
    ∷ checks_from w c.writes (end_checks (has_quit script.steps) script.fault c) 1 (told w (start_of script c)) (counted script.steps) c.notes

-- the verdict on a certificate
abbrev pub judged : Script → Certificate → Verdict
judged script c = verdict_of (checks script c)
