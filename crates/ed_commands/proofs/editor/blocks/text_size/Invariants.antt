-- The size of the lines that were passed.
use Rattle.std.proofs.Common.{◌≡◌, ◌-◌, ◌^◌, min, length}
use Rattle.std.specs.List.{concat}
use Rattle.ed_base.specs.Buffer.{texts}
use Rattle.ed_base.specs.Parts.{block}
use Rattle.ed_commands.proofs.editor.blocks.text_size.Given as goal

abbrev pub invariant-loop-i : goal.invariant-loop-i
invariant-loop-i g l = l.size ≡ min (length (concat (texts (block l.from l.i (g.S.LineStore.lines l.store))))) (2 ^ 64 - 1)
