-- Isolated names: those of which a zone knows nothing but that each is itself.
use Rattle.std.specs.Prelude.{◌≡◌, ◌≢◌, ℕ, ◌<◌, pos, Some, None}
use Rattle.zones.specs.Zone.{Bounds, bound}

-- a name is isolated where its bound with itself is 0 and that with each other name is any, both ways
pub record IsIsolated (zone : Bounds) (x : ℕ) : Type 0 where
  pub itself : bound zone x x ≡ Some (pos 0)
  pub row : (q : ℕ) → q < 32 → q ≢ x → bound zone x q ≡ None
  pub column : (p : ℕ) → p < 32 → p ≢ x → bound zone p x ≡ None
