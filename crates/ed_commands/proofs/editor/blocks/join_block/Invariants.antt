-- The bytes of the lines that were passed, none of them a newline.
use Rattle.std.proofs.Common.{◌≡◌}
use Rattle.std.specs.List.{concat}
use Rattle.ed_base.specs.Buffer.{texts}
use Rattle.ed_base.specs.Lines.{IsLine}
use Rattle.ed_base.specs.Parts.{block}
use Rattle.ed_commands.proofs.editor.blocks.join_block.Given as goal

abbrev pub invariant-loop-i : goal.invariant-loop-i
invariant-loop-i g l =
    record {
      joined : l.bytes ≡ concat (texts (block l.from l.i (g.S.LineStore.lines l.store)));
      line : IsLine l.bytes;
    }
