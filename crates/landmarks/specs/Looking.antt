-- What is found among lines.
use Rattle.std.specs.Prelude.{◌≡◌, ℕ, ◌-◌, ◌<◌, ◌≤◌, Bool, true, List}
use Rattle.std.specs.Option.{is_some}
use Rattle.bre_parse.specs.Tree.{Tree}
use Rattle.bre_parse.specs.Match.{match_from}
use Rattle.landmarks.specs.Places.{line_of, NonePasses}

-- whether a tree matches somewhere in a line
abbrev pub finds : Tree → (line : List ℕ) → Bool
finds tree line = is_some (match_from tree line 0)

-- the first line after line a, up to line b, at which a test passes
pub record IsFirstPassing (test : List ℕ → Bool) (lines : List (List ℕ)) (a b number : ℕ) : Type 0 where
  pub after : a < number
  pub through : number ≤ b
  pub passes : test (line_of lines number) ≡ true
  pub earlier : NonePasses test lines a (number - 1)
