-- Which kinds are among some remarks, and the numbers by which kinds are compared (our own).
use Rattle.std.specs.Prelude.{◌≢◌, ℕ, Bool, List, AllPairs, nat_eq}
use Rattle.std.specs.List.{list_any}
use Rattle.remarks.specs.declared.slip.Slip.{Slip}
use Rattle.remarks.specs.declared.slip.Slip.TheVariants as slip
use Rattle.remarks.specs.declared.slip.Remarked.{Remarked}

-- a kind's number, which no other has
abbrev pub slip_number : Slip → ℕ
slip_number slip.BracketOfBytes = 0
slip_number slip.DotOfBytes = 1
slip_number slip.Plus = 2
slip_number slip.QuestionMark = 3
slip_number slip.Bar = 4
slip_number slip.Parentheses = 5
slip_number slip.Braces = 6
slip_number slip.RangeFromLineOne = 7
slip_number slip.ListedRangeFromLineOne = 8
slip_number slip.CountedFromCurrentLine = 9
slip_number slip.BackwardRange = 10
slip_number slip.InsertBeforeNoLine = 11
slip_number slip.NothingWritten = 12
slip_number slip.CutLines = 13
slip_number slip.NormalDiff = 14
slip_number slip.UnifiedDiff = 15
slip_number slip.ForwardDiff = 16

-- two kinds are the same
abbrev pub same : Slip → Slip → Bool
same one other = nat_eq (slip_number one) (slip_number other)

-- a kind is among the remarks
abbrev pub tells : Slip → List Remarked → Bool
tells kind found = list_any (λ remarked. same kind remarked.slip) found

-- no kind is there twice
abbrev pub IsOnce : List Remarked → Type 0
IsOnce found = AllPairs (λ one other. one.slip ≢ other.slip) found
