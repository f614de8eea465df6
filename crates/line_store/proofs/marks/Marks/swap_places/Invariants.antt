-- The letters that were passed are where they are to be, and the others where they were.
use Rattle.std.proofs.Common.{◌≡◌, ℕ, ◌<◌, ◌≤◌, get_or, length, false, None}
use Rattle.line_store.specs.Shifts.{place_swapped}
use Rattle.line_store.proofs.marks.Marks.swap_places.Given as goal

abbrev pub invariant-loop-letter : goal.invariant-loop-letter
invariant-loop-letter l =
    let now = l.self-inside.places in
    let before = l.fn.self in
    record {
      count : length now ≡ 26;
      used : l.self-inside.unused ≡ false;
      done : (k : ℕ) → k < l.letter → get_or now k None ≡ place_swapped l.low l.middle l.high (get_or before k None);
      left : (k : ℕ) → l.letter ≤ k → get_or now k None ≡ get_or before k None;
    }
