use Rattle.std.proofs.Common.{◌≡◌, ◌<◌, ℕ, true}
use Rattle.zones.specs.Bound.{covers_bound}
use Rattle.zones.specs.Zone.{bound}
use Rattle.zones.proofs.two_tables.table_covers.Given as goal

abbrev pub invariant-loop-p : goal.invariant-loop-p
invariant-loop-p l = (p : ℕ) → p < l.p → (q : ℕ) → q < l.most → covers_bound (bound l.weak p q) (bound l.strong p q) ≡ true
