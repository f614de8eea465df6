-- The lines that are cut are those of the file.
use Rattle.std.proofs.Common.{◌∙◌, ap}
use Rattle.ed_base.specs.Buffer.{texts}
use Rattle.ed_base.specs.Lines.{lines_of}
use Rattle.line_store.proofs.Taken.{texts-plain}
use Rattle.line_store.proofs.block.Block.of_file.Goals as goal

pub returns : goal.returns
returns c = record { value = c.of_lines.ensures.value ∙ ap texts c.in_ok-cut_lines.ensures.value ∙ texts-plain (lines_of c.args.file) }
