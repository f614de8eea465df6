use Rattle.std.proofs.Common.{◌≡◌, ◌<◌, ℕ, true}
use Rattle.zones.specs.Bound.{covers_bound}
use Rattle.zones.specs.Zone.{bound}
use Rattle.zones.proofs.two_tables.row_covers.Given as goal

abbrev pub invariant-loop-q : goal.invariant-loop-q
invariant-loop-q l = (q : ℕ) → q < l.q → covers_bound (bound l.weak l.p q) (bound l.strong l.p q) ≡ true
