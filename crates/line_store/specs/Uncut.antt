-- Lines of a store that stand uncut in their file.
use Rattle.std.specs.Prelude.{ℕ, ◌≡◌, ◌≤◌, List, drop, length}
use Rattle.ed_base.specs.Lines.{lines_of}
use Rattle.line_store.specs.declared.store.UncutLines.{UncutLines}

-- of lines with these texts, those after the first ones are the lines of the file
abbrev pub StandUncut : List (List ℕ) → UncutLines → Type 0
StandUncut texts uncut = (uncut.before ≤ length texts) × (drop uncut.before texts ≡ lines_of uncut.file)
