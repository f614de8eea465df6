-- What reading all of a source gives (our choice: a limit on how much is read).
use Rattle.std.specs.Prelude.{ℕ, ◌+◌, ◌-◌, ◌^◌, ◌<◌, ◌≤◌, List, length, min, Option, Result, Ok, Err}
use Rattle.std.specs.Io.KnownBytes.{Consumes, IsAtEnd}

-- by how much a read raises the count of failures
abbrev pub failures_of_read : {E : Type 0} → Result ℕ E → ℕ
failures_of_read (Ok n) = 0
failures_of_read (Err e) = 1

-- a count of reads, which stays at its greatest value
abbrev pub counted : ℕ → ℕ
counted n = min (n + 1) (2 ^ 64 - 1)

-- a reader as a source: the bytes that it has left, where it tells them, how often it was read, and how often it failed
pub record InValue : Type 0 where
  pub remaining : Option (List ℕ)
  pub reads : ℕ
  pub failures : ℕ

-- these are all the bytes that the source had, and not above the limit
pub record IsAll (old new : Option (List ℕ)) (limit : ℕ) (bytes : List ℕ) : Type 0 where
  pub fits : length bytes ≤ limit
  pub consumed : Consumes old new bytes
  pub ended : IsAtEnd new

-- the source had more bytes than the limit
pub record HasMore (old new : Option (List ℕ)) (limit : ℕ) : Type 0 where
  pub bytes : List ℕ
  pub more : limit < length bytes
  pub consumed : Consumes old new bytes

-- so many bytes were taken at most
abbrev pub TakesAtMost : ℕ → Option (List ℕ) → Option (List ℕ) → Type 0
TakesAtMost most old new = (bytes : List ℕ) × (length bytes ≤ most) × Consumes old new bytes
