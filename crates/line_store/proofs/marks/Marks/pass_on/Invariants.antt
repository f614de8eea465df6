-- The letters that were passed are where they are to be, and the others where they were.
use Rattle.std.proofs.Common.{◌≡◌, ℕ, ◌<◌, ◌≤◌, get_or, length, false, None}
use Rattle.line_store.specs.Marks.{is_at}
use Rattle.line_store.specs.Shifts.{closed, opened}
use Rattle.line_store.proofs.marks.Marks.pass_on.Given as goal

abbrev pub invariant-loop-letter : goal.invariant-loop-letter
invariant-loop-letter l =
    let now = l.self-inside.places in
    let before = l.fn.self in
    record {
      count : length now ≡ 26;
      long : length l.before ≡ 26;
      done : (k : ℕ) → k < l.letter → get_or now k None ≡ opened l.at (get_or l.letters k false) (closed l.at (get_or before k None));
      left : (k : ℕ) → l.letter ≤ k → get_or now k None ≡ get_or before k None;
      told : (k : ℕ) → k < l.letter → get_or l.before k false ≡ is_at l.at (get_or before k None);
    }
