-- Bounds on a number of lines: at least so many and, where there is a limit, at most so many.
use Rattle.std.specs.Prelude.{ℕ, ◌≤◌, Bool, true, Option, Some, None, nat_le}

-- a certificate tells of at most 10^12 lines
abbrev pub most_lines : ℕ
most_lines = 1000000000000

-- a number of lines that a certificate may tell of
abbrev pub is_few : ℕ → Bool
is_few n = nat_le n most_lines

abbrev pub is_limit : Option ℕ → Bool
is_limit None = true
is_limit (Some n) = is_few n

-- at most so many, where there is a limit
abbrev pub is_within : ℕ → Option ℕ → Bool
is_within n None = true
is_within n (Some most) = nat_le n most

-- the same as a statement
abbrev pub IsAtMost : ℕ → Option ℕ → Type 0
IsAtMost n None = Unit {0}
IsAtMost n (Some most) = n ≤ most

-- a number of lines within two bounds
abbrev pub IsWithin : (low : ℕ) → (high : Option ℕ) → ℕ → Type 0
IsWithin low high n = (low ≤ n) × IsAtMost n high
