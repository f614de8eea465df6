-- The lines of a file are those that it has.
use Rattle.ed_base.specs.Lines.{lines_of}
use Rattle.line_store.proofs.Taken.{texts-plain}
use Rattle.line_store.proofs.block.Block.of_counted.Goals as goal

pub returns : goal.returns
returns c = record { value = texts-plain (lines_of c.args.file) }
