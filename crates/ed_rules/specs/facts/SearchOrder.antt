-- Where the line that a search finds lies (XCU ed, "Addresses in ed").
use Rattle.std.specs.Prelude.{◌≡◌, ℕ, ◌+◌, ◌<◌, ◌≤◌, ◌⊎◌, Bool, true, false}

-- no number from a up to below b passes
abbrev pub NonePass : (ℕ → Bool) → (a b : ℕ) → Type 0
NonePass p a b = (m : ℕ) → a ≤ m → m < b → p m ≡ false

-- Forward: the first line after the current one that passes or, where there is none, the first of all.
pub record IsFoundForward (p : ℕ → Bool) (current count n : ℕ) : Type 0 where
  pub passes : p n ≡ true
  pub from : 1 ≤ n
  pub inside : n ≤ count
  pub lies : ((current < n) × NonePass p (current + 1) n) ⊎ ((n ≤ current) × NonePass p (current + 1) (count + 1) × NonePass p 1 n)

-- Backward: the last line before the current one that passes or, where there is none, the last of all.
pub record IsFoundBackward (p : ℕ → Bool) (current count n : ℕ) : Type 0 where
  pub passes : p n ≡ true
  pub from : 1 ≤ n
  pub inside : n ≤ count
  pub lies : ((n < current) × NonePass p (n + 1) current) ⊎ ((current ≤ n) × NonePass p 1 current × NonePass p (n + 1) (count + 1))
