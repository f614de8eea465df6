-- Two blocks of a list, one right after the other, that change places.
use Rattle.std.specs.Prelude.{ℕ, List, ◌++◌, take, drop}
use Rattle.ed_base.specs.Parts.{block}

-- the elements from place `low` up to `middle` stand after those from there up to `high`
abbrev pub swapped : {X : Type 0} → (low middle high : ℕ) → List X → List X
swapped low middle high list = take low list ++ (block middle high list ++ (block low middle list ++ drop high list))
