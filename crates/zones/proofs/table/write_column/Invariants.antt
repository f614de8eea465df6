use Rattle.std.proofs.Common.{◌≡◌, ◌≢◌, ◌<◌, ◌≤◌, ℕ, length}
use Rattle.zones.specs.Bound.{lower}
use Rattle.zones.specs.Zone.{bound}
use Rattle.zones.proofs.table.write_column.Given as goal

abbrev pub invariant-loop-p : goal.invariant-loop-p
invariant-loop-p l = record {
  size : length l.table ≡ 1024;
  column : (a : ℕ) → a < l.p → bound l.table a l.x ≡ lower (bound l.fn.table a l.y) l.low;
  rest : (a : ℕ) → l.p ≤ a → bound l.table a l.x ≡ bound l.fn.table a l.x;
  others : (a b : ℕ) → b < 32 → b ≢ l.x → bound l.table a b ≡ bound l.fn.table a b;
}
