-- The landmarks that are found for a script of what is given of its start (our own).
use Rattle.std.specs.Prelude.{◌≡◌, ◌<◌, ◌++◌, ℕ, List, length, Some, remove}
use Rattle.landmarks.specs.ChainValues.{ChainValue}
use Rattle.ed_syntax.specs.Commands.{Script}
use Rattle.analyser.specs.declared.analysis.Start.{Start}
use Rattle.hints.specs.declared.given.Given.{Given}
use Rattle.hints.specs.Passing.{IsVouched, chains_in}
use Rattle.hints.specs.Widest.{IsWidest}

-- what is given, with these chains of landmarks after those that are
abbrev pub with_landmarks : Given → (added : List ChainValue) → Given
with_landmarks given added =
    record { path = given.path; min = given.min; max = given.max; has = given.has; landmarks = Some (chains_in given.landmarks ++ added) }

-- all that a start says, as what is given of one
abbrev pub given_of : Start → Given
given_of start = record { path = start.path; min = Some start.min; max = start.max; has = start.has; landmarks = start.landmarks }

-- a start with other landmarks
abbrev pub marked_by : Start → (chains : List ChainValue) → Start
marked_by start chains = record { path = start.path; min = start.min; max = start.max; has = start.has; landmarks = Some chains }

-- Of some chains of landmarks each is needed: over the same start without any one of them, beside the others and those that are given, the
-- script isn't vouched for.
abbrev pub IsEachNeeded : Script → Given → Start → (added : List ChainValue) → Type 0
IsEachNeeded script given start added =
    (place : ℕ) → place < length added → IsVouched script (marked_by start (chains_in given.landmarks ++ remove added place)) → ⊥

-- A start states landmarks that are needed beside those of another one: the script is vouched for over it, and without any one of these chains,
-- beside the others, it isn't.
pub record StatesLandmarks (script : Script) (start then : Start) : Type 0 where
  pub added : List ChainValue
  pub states : then.landmarks ≡ Some (chains_in start.landmarks ++ added)
  pub vouched : IsVouched script then
  pub needed : IsEachNeeded script (given_of start) then added

-- A start is the widest one of what is given and some chains of landmarks beside that: the script is vouched for over it, with one line less it
-- isn't, where the fewest aren't given, and no pattern is stated that isn't needed. Each of the chains is needed.
pub record IsLandmarked (script : Script) (given : Given) (start : Start) : Type 0 where
  pub added : List ChainValue
  pub widest : IsWidest script (with_landmarks given added) start
  pub needed : IsEachNeeded script given start added
