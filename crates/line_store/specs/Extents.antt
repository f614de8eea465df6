-- How far a line reaches in the block of bytes that it is a part of.
use Rattle.std.specs.Prelude.{ℕ, ◌+◌, ◌-◌, ◌^◌, Bool, if◌then◌else◌, nat_eq}

-- how many bytes a line has, or that it is its whole block, and whether it has the flag
pub record ExtentValue : Type 0 where
  pub size : ℕ
  pub flag : Bool

-- what stands in place of the number of bytes where a line is its whole block, however long that is
abbrev pub whole : ℕ
whole = 2 ^ 31 - 1

-- where a line of so many bytes ends in its block
abbrev pub line_end : (start size block : ℕ) → ℕ
line_end start size block = if nat_eq size whole then block else start + size
