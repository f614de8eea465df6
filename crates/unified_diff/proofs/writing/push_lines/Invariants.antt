use Rattle.std.proofs.Common.{◌≡◌, ◌++◌}
use Rattle.ed_base.specs.Parts.{block}
use Rattle.unified_diff.specs.Hunks.{signed}
use Rattle.unified_diff.specs.DiffText.{line_texts}
use Rattle.unified_diff.specs.Edits.{seen}
use Rattle.unified_diff.proofs.writing.push_lines.Given as goal

abbrev pub invariant-loop-place : goal.invariant-loop-place
invariant-loop-place l = l.text ≡ l.fn.text ++ line_texts l.colours (signed l.sign (block l.start l.place (seen l.lines)))
