-- Blocks of lines that come in.
use Rattle.std.specs.Prelude.{ℕ, ◌≡◌, List}
use Rattle.ed_base.specs.Buffer.{Line, texts}
use Rattle.ed_base.specs.Parts.{exchanged}
use Rattle.line_store.specs.Kept.{flag_count}

-- lines of these texts, none of which has the flag, came in place of those from place `from` up to `to`
pub record CameIn (from to : ℕ) (block : List (List ℕ)) (old new : List Line) : Type 0 where
  pub lines : List Line
  pub same : texts lines ≡ block
  pub bare : flag_count lines ≡ 0
  pub put : new ≡ exchanged from to lines old
