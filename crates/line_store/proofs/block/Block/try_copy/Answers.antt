-- The lines of a file are those that it has.
use Rattle.std.proofs.Common.{◌∙◌, ap}
use Rattle.ed_base.specs.Lines.{lines_of}
use Rattle.line_store.proofs.Filled.{whole-file}
use Rattle.line_store.proofs.block.Block.try_copy.Goals as goal

pub returns-in_ok-try_copy-in-File : goal.returns-in_ok-try_copy-in-File
returns-in_ok-try_copy-in-File c = record {
  value = c.of_counted.ensures.value
      ∙ ap lines_of c.in_ok-try_copy-in-File.ensures.value
      ∙ whole-file c.self.inside.kind c.in-File.file c.in-File.count c.args.self.now c.in-File.is c.self.view_is;
}
