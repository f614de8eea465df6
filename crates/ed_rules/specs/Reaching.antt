-- What the calls of this crate answer that go over from one state to another.
use Rattle.std.specs.Prelude.{◌≡◌, ◌≢◌, Option, Some, None, Result, Ok, Err}
use Rattle.ed_base.specs.declared.fault.Fault.{Fault}
use Rattle.ed_base.specs.declared.fault.Fault.TheVariants.{Memory}
use Rattle.ed_rules.specs.declared.state.State.{State}
use Rattle.ed_rules.specs.facts.Facts.{Facts}

-- a call reaches the state, or answers the fault, that it should; memory may run out at any time
abbrev pub Reaches : Result (Unit {0}) Fault → State → Result State Fault → Type 0
Reaches (Ok u) t should = should ≡ Ok t
Reaches (Err f) t should = f ≢ Memory → should ≡ Err f

-- a call tells the fault that it should or, where there is none, reaches the state that it should
abbrev pub Comes : (failed : Option Fault) → State → Result State Fault → Type 0
Comes None t should = should ≡ Ok t
Comes (Some f) t should = should ≡ Err f

-- the same, and the call tells what is known of single lines then
abbrev pub ReachesTelling : Result Facts Fault → State → Result State Fault → (State → Facts) → Type 0
ReachesTelling (Ok facts) t should told = (should ≡ Ok t) × (facts ≡ told t)
ReachesTelling (Err f) t should told = f ≢ Memory → should ≡ Err f
