-- The lines that a command is applied to (XCU ed, "Addresses in ed").
use Rattle.std.specs.Prelude.{ℕ, zero, suc, max, true, false, ◌&&◌, List, [], ◌∷◌, Result, Ok, Err, nat_le}
use Rattle.ed_base.specs.declared.fault.Fault.{Fault}
use Rattle.ed_base.specs.declared.fault.Fault.TheVariants as fault
use Rattle.ed_syntax.specs.declared.verbs.Taking.{Taking}
use Rattle.ed_syntax.specs.declared.verbs.Taking.TheVariants as takes

-- the lines from first to last
pub record Span : Type 0 where
  pub first : ℕ
  pub last : ℕ

-- the lines from a to b
abbrev pub span : ℕ → ℕ → Span
span a b = record { first = a; last = b }

-- the first value that was given
abbrev pub first_of_two : List ℕ → ℕ
first_of_two [] = 0
first_of_two (a ∷ more) = a

-- one address stands for both
abbrev pub last_of_two : List ℕ → ℕ
last_of_two [] = 0
last_of_two (a ∷ []) = a
last_of_two (a ∷ b ∷ more) = b

-- in order, and not at line 0
abbrev pub ordered : ℕ → ℕ → Result Span Fault
ordered a b = elim (nat_le 1 a) [ true ↦ elim (nat_le a b) [ true ↦ Ok (span a b) | false ↦ Err fault.Address ] | false ↦ Err fault.Address ]

-- line 0 stands for line 1
abbrev pub not_before : ℕ → ℕ
not_before n = max 1 n

-- in order, where 0 stands for 1 once the order was tested, and with no line after the last
abbrev pub from_first : (a b last : ℕ) → Result Span Fault
from_first a b last =
    elim (nat_le a b && nat_le (not_before b) last) [ true ↦ Ok (span (not_before a) (not_before b)) | false ↦ Err fault.Address ]

-- a line, which isn't 0
abbrev pub single : ℕ → Result Span Fault
single zero = Err fault.Address
single (suc n) = Ok (span (suc n) (suc n))

-- all lines where no address is given, of an empty buffer none; else in order
abbrev pub whole : (last : ℕ) → List ℕ → Result Span Fault
whole last [] = Ok (span 1 last)
whole last (a ∷ more) = ordered a (last_of_two (a ∷ more))

-- The lines that these values name, for a command that takes so many, in a buffer of so many lines; of two for one line the last is
-- taken, in any order.
abbrev pub spanned : Taking → (last : ℕ) → List ℕ → Result Span Fault
spanned takes.NoAddress last values = Ok (span 0 0)
spanned takes.Place last values = let a = last_of_two values in Ok (span a a)
spanned takes.FirstPlace last values = let a = not_before (last_of_two values) in Ok (span a a)
spanned takes.OneLine last values = single (last_of_two values)
spanned takes.Lines last values = from_first (first_of_two values) (last_of_two values) last
spanned takes.Range last values = ordered (first_of_two values) (last_of_two values)
spanned takes.Whole last values = whole last values
