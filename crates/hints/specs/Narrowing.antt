-- What stays true of patterns while those that aren't needed are left out (our own).
use Rattle.std.specs.Prelude.{◌≡◌, ◌≤◌, ℕ, true, List, All, Option, IfSome}
use Rattle.std.specs.List.{Contains}
use Rattle.ed_syntax.specs.Commands.{Script}
use Rattle.ed_rules.specs.Texts.{are_members}
use Rattle.analyser.specs.declared.analysis.Start.{Start}
use Rattle.hints.specs.declared.given.Given.{Given}
use Rattle.hints.specs.Passing.{IsAllowed, IsVouched}
use Rattle.hints.specs.Widest.{start_with, beside, addable}

-- A number of lines and patterns beside those that are given are enough: with so many lines at least the script is vouched for. Each of the
-- patterns is one that may be stated.
pub record AreEnough (script : Script) (given : Given) (min : ℕ) (added : List (List ℕ)) : Type 0 where
  pub given_least : IfSome given.min (λ least. min ≡ least)
  pub allowed : IsAllowed (start_with given min (beside given added))
  pub sought : All (Contains (addable script given.max)) added
  pub vouched : IsVouched script (start_with given min (beside given added))

-- what is given is stated, or beside that some of these patterns
pub data StatesSome (given : Given) (patterns : List (List ℕ)) (has : Option (List (List ℕ))) : Type 0 where
  as_given : has ≡ given.has → StatesSome given patterns has
  with_some : (some : List (List ℕ)) → has ≡ beside given some → are_members some patterns ≡ true → StatesSome given patterns has

-- What was left out of a number of lines and of patterns beside those that are given: a start has at most as many lines at least, and states
-- only some of these patterns.
pub record IsNarrowed (given : Given) (min : ℕ) (patterns : List (List ℕ)) (start : Start) : Type 0 where
  pub fewest : start.min ≤ min
  pub stated : StatesSome given patterns start.has
