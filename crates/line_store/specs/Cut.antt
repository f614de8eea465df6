-- Lines of a file that are cut, and lines that aren't yet.
use Rattle.std.specs.Prelude.{ℕ, ◌≡◌, ◌<◌, List, [], ◌++◌, Option, Some, None, length, map}
use Rattle.ed_base.specs.Buffer.{Line, plain_line}
use Rattle.ed_base.specs.Lines.{lines_of}

-- some of the first lines of a file went to the end of a list, and these are left
pub record TookIn (before left : List (List ℕ)) (old new : List Line) : Type 0 where
  pub first : List (List ℕ)
  pub some : 0 < length first
  pub split : before ≡ first ++ left
  pub put : new ≡ old ++ map plain_line first

-- lines that are cut, and after them those that aren't
pub record CutValue : Type 0 where
  pub cut : List Line
  pub rest : List Line

-- all of them
abbrev pub all_lines : CutValue → List Line
all_lines v = v.cut ++ v.rest

-- the lines that a file has, if there is one
abbrev pub lines_left : Option (List ℕ) → List Line
lines_left None = []
lines_left (Some bytes) = map plain_line (lines_of bytes)
