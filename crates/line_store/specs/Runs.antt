-- Lines that stand in a row in a block of bytes.
use Rattle.std.specs.Prelude.{ℕ, ◌≡◌, List, [], ◌∷◌, ◌++◌, Bool, true, false, Option, Some, None}
use Rattle.ed_base.specs.Buffer.{Line, texts}
use Rattle.ed_base.specs.Lines.{newline, AreLines, bytes_of}

-- the bytes of a run, where the last of its lines has its newline in the block or lacks it
abbrev pub run_bytes : List ℕ → (ended : Bool) → List ℕ
run_bytes bytes true = bytes
run_bytes bytes false = bytes ++ newline ∷ []

-- the bytes are those of the lines, each with a newline
pub record RunOf (row : List ℕ) (lines : List Line) : Type 0 where
  pub bytes : row ≡ bytes_of (texts lines)
  pub are : AreLines (texts lines)

-- the lines are those of a run, if there is one
abbrev pub IsRun : Option (List ℕ) → List Line → Type 0
IsRun None lines = Unit {0}
IsRun (Some bytes) lines = RunOf bytes lines
