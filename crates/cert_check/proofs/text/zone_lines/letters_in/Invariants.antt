-- The letters so far, and what letters there can be after them.
use Rattle.std.proofs.Common.{◌≡◌, ◌≤◌, ◌+◌, ◌++◌, ℕ, Bool, false, List, length, get_or, drop}
use Rattle.cert_check.specs.text.Text.{sure_letters}
use Rattle.cert_check.proofs.text.zone_lines.letters_in.Given as goal

abbrev pub invariant-loop-place : goal.invariant-loop-place
invariant-loop-place l = record {
  size : length l.marks ≡ 26;
  read : sure_letters 97 l.marks ++ l.left ≡ l.word;
  unsure : (k : ℕ) → l.place ≤ k → get_or l.marks k false ≡ false;
  other : (m : List Bool) → length m ≡ 26 → sure_letters 97 m ≡ l.word → sure_letters (97 + l.place) (drop l.place m) ≡ l.left;
}
