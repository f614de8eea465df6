-- How the checker goes through the checks: what its own functions answer.
use Rattle.std.specs.Prelude.{◌≡◌, ℕ, ◌+◌, Bool, true, false, not, ◌&&◌, ◌||◌, List, length, Option, Some, None, is_none, if◌then◌else◌}
use Rattle.ed_syntax.specs.Commands.{Command, Step}
use Rattle.ed_rules.specs.declared.state.State.{State}
use Rattle.cert_check.specs.checker.Covering.{covers}
use Rattle.cert_check.specs.declared.checker.verdict.Place.{Place}
use Rattle.cert_check.specs.declared.checker.verdict.Verdict.{Verdict}
use Rattle.cert_check.specs.declared.checker.verdict.Verdict.TheVariants.{Accepted, Refused}
use Rattle.ed_rules.specs.Globals.{loop_end}
use Rattle.cert_check.specs.declared.sight.Sight.{Sight}
use Rattle.cert_check.specs.Certificates.{Looped, Note, Certificate}
use Rattle.cert_check.specs.checker.Valid.{told, Check, command_at, verdict_of, are_met, left_by, are_listed, knows_least, knows_most, left_by_inner, after_turns, list_checks, loop_checks, left_after, step_checks, checks_from}

-- the verdict where all checks of a number hold, or where one fails
abbrev pub verdict_at : (number : ℕ) → Bool → Verdict
verdict_at number true = Accepted
verdict_at number false = Refused (command_at number)

-- the state after a command, where its needs hold
abbrev pub left_where_met : Sight → Command → State → Option State
left_where_met w c note = if are_met c note then Some (left_by w c note) else None

-- the same, where all checks of the command hold
abbrev pub passed : Sight → (writes : List (List ℕ)) → Command → (known coming : State) → Option State
passed w writes c known coming = if covers known coming then (if are_listed writes c known then left_where_met w c known else None) else None

-- all checks of a command hold and it leaves this state, or some check fails, as it should be
abbrev pub Passes : (holds : Bool) → (left : State) → Option State → Type 0
Passes true t should = should ≡ Some t
Passes false t should = should ≡ None

-- all checks of the end hold
abbrev pub ends_well : (quit : Bool) → (fault : Option ℕ) → Certificate → (coming : State) → Bool
ends_well quit fault c coming =
    (quit || is_none fault) && (covers c.last coming && ((quit || not c.last.changed.yes) && (knows_least c.last.zone c.low && knows_most c.last.zone c.high)))

-- what the checks of a list come to, whatever those of what it leaves are: the place of the first that fails, or what is left
abbrev pub ListGoesTo : Sight → (number : ℕ) → (writes : List (List ℕ)) → List Command → List State → (entry : State) → (failed : Option Place) → (left : State) → Type 0
ListGoesTo w number writes list states entry None t =
    (t ≡ left_by_inner w list states entry) × ((turned : ℕ → State → List Check) → verdict_of (list_checks w number 1 writes entry list states turned) ≡ verdict_of (turned (length list + 1) t))
ListGoesTo w number writes list states entry (Some place) t =
    (turned : ℕ → State → List Check) → verdict_of (list_checks w number 1 writes entry list states turned) ≡ Refused place

-- what is known after the last line, by what the list leaves; there is none where the check of that fails
abbrev pub after_turn : (once : Bool) → (invariant turned : State) → Option State
after_turn once invariant turned = if once then Some turned else (if covers invariant turned then Some invariant else None)

-- what the checks of what is known of a list come to, whatever those after it are
abbrev pub LoopGoesTo : Sight → (number : ℕ) → (writes : List (List ℕ)) → Step → Looped → (known start : State) → (failed : Option Place) → (left : State) → Type 0
LoopGoesTo w number writes x l known start None t =
    (t ≡ told w (loop_end x known (after_turns w x l))) × ((later : List Check) → verdict_of (loop_checks w number writes x l start later) ≡ verdict_of later)
LoopGoesTo w number writes x l known start (Some place) t = (later : List Check) → verdict_of (loop_checks w number writes x l start later) ≡ Refused place

-- what the checks of a step come to
abbrev pub StepGoesTo : Sight → (number : ℕ) → (writes : List (List ℕ)) → Step → Note → (coming : State) → (failed : Option Place) → (left : State) → Type 0
StepGoesTo w number writes x n coming None t =
    (t ≡ left_after w n.looped x n.state) × ((later : List Check) → verdict_of (step_checks w number writes x n coming later) ≡ verdict_of later)
StepGoesTo w number writes x n coming (Some place) t = (later : List Check) → verdict_of (step_checks w number writes x n coming later) ≡ Refused place

-- what the checks of these steps come to, whatever those of the end are
abbrev pub GoesTo : Sight → (writes : List (List ℕ)) → List Step → List Note → (start : State) → (failed : Option Place) → (left : State) → Type 0
GoesTo w writes xs notes s None t = (end : ℕ → State → List Check) → verdict_of (checks_from w writes end 1 s xs notes) ≡ verdict_of (end (length notes + 1) t)
GoesTo w writes xs notes s (Some place) t = (end : ℕ → State → List Check) → verdict_of (checks_from w writes end 1 s xs notes) ≡ Refused place

-- the verdict where the checks of the commands came to this
abbrev pub verdict_after : (failed : Option Place) → (left : State) → (quit : Bool) → (fault : Option ℕ) → Certificate → Verdict
verdict_after None t quit fault c = verdict_at (length c.notes + 1) (ends_well quit fault c t)
verdict_after (Some place) t quit fault c = Refused place
