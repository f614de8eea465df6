use Rattle.std.proofs.Common.{◌≡◌, ◌<◌, ◌≤◌, ℕ, get_or, length, None}
use Rattle.zones.specs.Zone.{bound}
use Rattle.zones.proofs.table.read_row.Given as goal

abbrev pub invariant-loop-q : goal.invariant-loop-q
invariant-loop-q l = record {
  size : length l.row ≡ 32;
  done : (q : ℕ) → q < l.q → get_or l.row q None ≡ bound l.table l.y q;
  rest : (q : ℕ) → l.q ≤ q → q < 32 → get_or l.row q None ≡ None;
}
