-- How far a text that a sink is given through a room has come.
use Rattle.std.specs.Prelude.{◌≡◌, ℕ, ◌<◌, ◌-◌, ◌^◌, List, ◌++◌, Bool, true, false}
use Rattle.ed_session.specs.Sinks.{SinkState, SinkChange, change, Took, TookFront, NeverFailed, Failed}

-- it took all of these bytes but those that wait, and didn't fail
pub record TookAllBut (sink : SinkChange) (bytes waiting : List ℕ) : Type 0 where
  pub gone : List ℕ
  pub whole : bytes ≡ gone ++ waiting
  pub taken : Took sink gone
  pub well : NeverFailed sink

-- it took a front of these bytes, and failed
pub record StoppedIn (sink : SinkChange) (bytes : List ℕ) : Type 0 where
  pub front : TookFront sink bytes
  pub failed : Failed sink

-- of the text so far it took all but what waits, and had failed so seldom before that it may be given more; or it refused some of it
abbrev pub IsGathered : SinkState → SinkState → List ℕ → Bool → List ℕ → Type 0
IsGathered before now waiting false text = TookAllBut (change before now) text waiting × (before.failures < 2 ^ 64 - 1)
IsGathered before now waiting true text = StoppedIn (change before now) text
