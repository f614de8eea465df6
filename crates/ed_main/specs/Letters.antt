-- Landmarks that take more letters than a script leaves for them: words that aren't understood (our choice: the status).
use Rattle.std.specs.Prelude.{◌≡◌, ℕ, List}
use Rattle.ed_base.specs.Fault.{status_of}
use Rattle.ed_base.specs.declared.fault.Fault.TheVariants as fault
use Rattle.ed_calls.specs.Landmarked.{LeavesLetters}
use Rattle.ed_calls.specs.declared.starts.Starts.{Starts}

-- the script leaves too few letters for the landmarks, or there was no memory to see whether it does
pub data IsRefused (script : List ℕ) (starts : Starts) (status : ℕ) : Type 0 where
  too_few : (LeavesLetters script starts → ⊥) → status ≡ 4 → IsRefused script starts status
  no_memory : status ≡ status_of fault.Memory → IsRefused script starts status

-- the script leaves enough, and the start was used so; or it is refused
pub data WithLetters (script : List ℕ) (starts : Starts) (Used : ℕ → Type 0) (status : ℕ) : Type 0 where
  enough : LeavesLetters script starts → Used status → WithLetters script starts Used status
  refused : IsRefused script starts status → WithLetters script starts Used status
