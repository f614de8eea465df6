-- The lines of a file are those that it has.
use Rattle.std.proofs.Common.{◌∙◌}
use Rattle.line_store.proofs.Filled.{whole-file}
use Rattle.line_store.proofs.block.Block.into_chunks.Goals as goal

pub returns-in-Ok-clause-value : goal.returns-in-Ok-clause-value
returns-in-Ok-clause-value c =
    c.in-Ok.ensures.value ∙ whole-file c.self.inside.kind c.in-File.file c.in-File.count c.args.self c.in-File.is c.self.view_is

pub returns-in-Err-clause-handed_back : goal.returns-in-Err-clause-handed_back
returns-in-Err-clause-handed_back c =
    c.of_counted.ensures.value ∙ whole-file c.self.inside.kind c.in-File.file c.in-File.count c.args.self c.in-File.is c.self.view_is
