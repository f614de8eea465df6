use Rattle.std.proofs.Common.{◌≡◌, ◌≢◌, ◌<◌, ℕ, length, pos, Some, None}
use Rattle.zones.specs.Zone.{bound}
use Rattle.zones.proofs.table.any_table.Given as goal

abbrev pub invariant-loop-p : goal.invariant-loop-p
invariant-loop-p l = record {
  size : length l.table ≡ 1024;
  diagonal : (a : ℕ) → a < l.p → bound l.table a a ≡ Some (pos 0);
  others : (a b : ℕ) → a < 32 → b < 32 → a ≢ b → bound l.table a b ≡ None;
}
