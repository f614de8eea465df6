use Rattle.std.proofs.Common.{◌≡◌, ℕ, ◌++◌, drop}
use Rattle.unified_diff.specs.DiffText.{line_texts}
use Rattle.unified_diff.specs.Edits.{seen, Edits, shown_lines}
use Rattle.unified_diff.proofs.hunks.push_changes.Given as goal

-- what is told, and what is left to be told
abbrev pub invariant-loop-change : goal.invariant-loop-change
invariant-loop-change l = record {
  edits : (j : ℕ) × Edits l.old_at j (drop l.change-index l.group) l.extent.old_end l.extent.new_end (seen l.old) (seen l.new);
  told :
      l.text ++ line_texts l.colours (shown_lines l.old_at (drop l.change-index l.group) l.extent.old_end (seen l.old) (seen l.new))
      ≡ l.fn.text ++ line_texts l.colours (shown_lines l.extent.old_start l.group l.extent.old_end (seen l.old) (seen l.new));
}
