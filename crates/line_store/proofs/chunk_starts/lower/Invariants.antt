-- One is taken from each of the numbers that were passed.
use Rattle.std.proofs.Common.{◌≡◌, ℕ, ◌+◌, ◌<◌, ◌≤◌, length, get_or, vec_capacity}
use Rattle.line_store.proofs.chunk_starts.lower.Given as goal

abbrev pub invariant-loop-k : goal.invariant-loop-k
invariant-loop-k l =
    let now = l.numbers.items in
    let before = l.fn.numbers.items in
    record {
      long : length now ≡ length before;
      capacity : vec_capacity l.numbers ≡ vec_capacity l.fn.numbers;
      lowered : (m : ℕ) → l.from ≤ m → m < l.k → get_or now m 0 + 1 ≡ get_or before m 0;
      below : (m : ℕ) → m < l.from → get_or now m 0 ≡ get_or before m 0;
      above : (m : ℕ) → l.k ≤ m → get_or now m 0 ≡ get_or before m 0;
    }
