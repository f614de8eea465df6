-- The letters that were passed are where the store has them, and the others nowhere.
use Rattle.std.proofs.Common.{◌≡◌, ℕ, ◌<◌, ◌≤◌, get_or, length, None}
use Rattle.ed_base.specs.Buffer.{marked_place}
use Rattle.line_store.proofs.marks.Marks.of.Given as goal

abbrev pub invariant-loop-place : goal.invariant-loop-place
invariant-loop-place g l =
    let lines = g.S.LineStore.lines l.store in
    record {
      count : length l.marks ≡ 26;
      done : (k : ℕ) → k < l.place → get_or l.marks k None ≡ marked_place k lines;
      left : (k : ℕ) → l.place ≤ k → get_or l.marks k None ≡ None;
    }
