-- What comes of a script that is judged for its status alone.
use Rattle.std.specs.Prelude.{◌≡◌, ℕ, List}
use Rattle.ed_base.specs.Fault.{status_of}
use Rattle.ed_base.specs.declared.fault.Fault.TheVariants as fault
use Rattle.ed_calls.specs.declared.starts.Starts.{Starts}
use Rattle.ed_calls.specs.declared.told.Told.{Told}
use Rattle.ed_calls.specs.Vouch.{Vouches}

-- The status is the one that goes with what `vouch` tells of the script that these bytes spell: 0 where it is vouched for, 1 where it isn't.
-- Or there was no memory to find out.
pub data IsJudgement (script : List ℕ) (starts : Starts) (status : ℕ) : Type 0 where
  judged : (told : Told) → Vouches script starts told → status ≡ told.status → IsJudgement script starts status
  no_memory : status ≡ status_of fault.Memory → IsJudgement script starts status
