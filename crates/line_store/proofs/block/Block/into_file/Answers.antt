-- The lines of a file are those that it has.
use Rattle.line_store.proofs.Filled.{whole-file}
use Rattle.line_store.proofs.block.Block.into_file.Goals as goal

pub returns-in-File-clause-value : goal.returns-in-File-clause-value
returns-in-File-clause-value c = whole-file c.self.inside.kind c.in-File.file c.in-File.count c.args.self c.in-File.is c.self.view_is
