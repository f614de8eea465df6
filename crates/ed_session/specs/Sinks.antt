-- What a sink took of a piece, and whether it failed (our choice: a write that takes nothing has failed).
use Rattle.std.specs.Prelude.{ℕ, List, [], ◌≡◌, ◌≢◌, ◌<◌, ◌++◌, Option, true, false, nat_eq, Result, Ok, Err}
use Rattle.std.specs.Io.KnownBytes.{Appends}

-- by how much a write raises the count of failures
abbrev pub failures_of_write : {E : Type 0} → Result ℕ E → ℕ
failures_of_write (Ok n) = elim (nat_eq n 0) [ true ↦ 1 | false ↦ 0 ]
failures_of_write (Err e) = 1

-- a list begins with a front, and goes on
abbrev pub GoesOnAfter : List ℕ → List ℕ → Type 0
GoesOnAfter all front = (more : List ℕ) × (all ≡ front ++ more) × (more ≢ [])

-- bytes that are known grew by a front of these, and not by all of them
abbrev pub AppendsFront : Option (List ℕ) → Option (List ℕ) → List ℕ → Type 0
AppendsFront old new bytes = (front : List ℕ) × GoesOnAfter bytes front × Appends old new front

-- what is known of a sink: the bytes that it took, where it tells them, and how often it failed
pub record SinkState : Type 0 where
  pub taken : Option (List ℕ)
  pub failures : ℕ

-- what a sink was before some calls, and what it is after them
pub record SinkChange : Type 0 where
  pub before : SinkState
  pub after : SinkState

abbrev pub change : SinkState → SinkState → SinkChange
change before after = record { before = before; after = after }

-- it took these bytes
abbrev pub Took : SinkChange → List ℕ → Type 0
Took sink bytes = Appends sink.before.taken sink.after.taken bytes

-- what is known of the bytes that it took is the same
abbrev pub TookNothing : SinkChange → Type 0
TookNothing sink = sink.after.taken ≡ sink.before.taken

-- it took a front of these bytes, and not all of them
abbrev pub TookFront : SinkChange → List ℕ → Type 0
TookFront sink bytes = AppendsFront sink.before.taken sink.after.taken bytes

-- it failed in none of these calls
abbrev pub NeverFailed : SinkChange → Type 0
NeverFailed sink = sink.after.failures ≡ sink.before.failures

-- it failed in some of them
abbrev pub Failed : SinkChange → Type 0
Failed sink = sink.before.failures < sink.after.failures
