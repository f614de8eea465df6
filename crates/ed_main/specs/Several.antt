-- Scripts that are judged one after another (our choice: the status).
use Rattle.std.specs.Prelude.{◌≡◌, ℕ, Bool, List, [], ◌∷◌, All, length, nat_eq, nat_lt, if◌then◌else◌}
use Rattle.ed_base.specs.Fault.{status_of}
use Rattle.ed_base.specs.declared.fault.Fault.TheVariants as fault
use Rattle.sources.specs.declared.source.ReadFault.{ReadFault}
use Rattle.sources.specs.declared.source.ReadFault.TheVariants as reading
use Rattle.ed_calls.specs.declared.starts.Starts.{Starts}
use Rattle.ed_calls.specs.Judging.{IsJudgement}
use Rattle.ed_main.specs.Letters.{WithLetters}

-- input that isn't read ends the program as a file does that is refused
abbrev pub status_of_unread : ReadFault → ℕ
status_of_unread reading.Refused = status_of fault.File
status_of_unread reading.Memory = status_of fault.Memory

abbrev pub greater : ℕ → ℕ → ℕ
greater one other = if nat_lt one other then other else one

-- the greatest of some statuses; where there is none it is 0
abbrev pub greatest : List ℕ → ℕ
greatest [] = 0
greatest (status ∷ statuses) = greater status (greatest statuses)

-- what came of a script that was read: it was judged, if it leaves letters for the landmarks
abbrev pub IsJudged : (script : List ℕ) → Starts → ℕ → Type 0
IsJudged script starts status = WithLetters script starts (IsJudgement script starts) status

-- what came of one script: it was read and judged, or it wasn't read
pub data IsOutcome (starts : Starts) (status : ℕ) : Type 0 where
  judged : (script : List ℕ) → IsJudged script starts status → IsOutcome starts status
  unread : (fault : ReadFault) → status ≡ status_of_unread fault → IsOutcome starts status

-- So many scripts were judged: each has a status that came of it, and the greatest one is that of all.
pub record AreJudged (starts : Starts) (count : ℕ) (status : ℕ) : Type 0 where
  pub statuses : List ℕ
  pub each : All (IsOutcome starts) statuses
  pub as_many : length statuses ≡ count
  pub greatest_of : status ≡ greatest statuses

-- no script is named
abbrev pub names_none : (scripts : List (List ℕ)) → Bool
names_none scripts = nat_eq (length scripts) 0

-- the scripts in the files at these paths were judged, or where no path is given the one of these bytes
abbrev pub Judges : (script : List ℕ) → Starts → (scripts : List (List ℕ)) → ℕ → Type 0
Judges script starts [] status = IsJudged script starts status
Judges script starts (path ∷ paths) status = AreJudged starts (length (path ∷ paths)) status
