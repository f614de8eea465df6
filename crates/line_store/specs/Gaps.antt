-- Lines with a gap among them.
use Rattle.std.specs.Prelude.{ℕ, ◌++◌, List, take, drop}
use Rattle.ed_base.specs.Buffer.{Line}

-- the lines, how many stand before the gap, and for how many there is room
pub record GapValue : Type 0 where
  pub items : List Line
  pub gap : ℕ
  pub room : ℕ

-- a list turned so that this many of its first elements come last
abbrev pub turned : {X : Type 0} → ℕ → List X → List X
turned count list = drop count list ++ take count list
