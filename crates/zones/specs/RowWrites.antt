-- What the calls that write a table row by row leave. No public contract speaks of it.
use Rattle.std.specs.Prelude.{◌≡◌, ◌≢◌, ◌<◌, ◌≤◌, ℕ, ℤ, length, Option}
use Rattle.zones.specs.Zone.{Bounds, bound}

-- a row of a table is written up to a column
pub record IsRowWritten (old table : Bounds) (row_at : ℕ → Option ℤ) (p q : ℕ) : Type 0 where
  pub size : length table ≡ 1024
  pub row : (b : ℕ) → b < q → bound table p b ≡ row_at b
  pub rest : (b : ℕ) → q ≤ b → b < 32 → bound table p b ≡ bound old p b
  pub others : (a b : ℕ) → b < 32 → a ≢ p → bound table a b ≡ bound old a b
