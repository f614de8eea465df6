use Rattle.std.proofs.Common.{◌∙◌, arith}
use Rattle.zones.proofs.table.write_cross.Goals as goal

pub write_column-requires-clause-unknown : goal.write_column-requires-clause-unknown
write_column-requires-clause-unknown c p q low hp hq = c.write_row.ensures.others p q hp hq (omega arith) ∙ c.requires.unknown.row p q low hp hq
