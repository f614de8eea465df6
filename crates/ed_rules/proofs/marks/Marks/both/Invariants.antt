use Rattle.std.proofs.Common.{◌≡◌, ℕ, ◌<◌, length, get_or, false, ◌&&◌}
use Rattle.ed_rules.proofs.marks.Marks.both.Given as goal

abbrev pub invariant-loop-place : goal.invariant-loop-place
invariant-loop-place l = record {
  size : length l.sure ≡ 26;
  done : (k : ℕ) → k < l.place → get_or l.sure k false ≡ (get_or l.self-inside.sure k false && get_or l.other-inside.sure k false);
}
