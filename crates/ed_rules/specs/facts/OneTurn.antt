-- The list of a `g` that is run once, for the one line that its pattern matches.
use Rattle.std.specs.Prelude.{◌≡◌, ℕ, pos}
use Rattle.zones.specs.Zone.{Numbers}
use Rattle.ed_syntax.specs.meaning.States as editor
use Rattle.ed_rules.specs.GlobalSoundness.{FlaggedPass, passes_none}

-- the line of the name v was taken, and no line is left to be taken
pub record IsTakenOnce (number : Numbers) (v : ℕ) (f : editor.State) : Type 0 where
  pub current_is : number v ≡ pos f.current
  pub no_flags : FlaggedPass passes_none f.lines
