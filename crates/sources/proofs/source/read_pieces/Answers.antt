use Rattle.std.proofs.Common.{rules}
use Rattle.sources.proofs.Taking.{takes_more}
use Rattle.sources.proofs.source.read_pieces.Goals as goal

pub returns-in_err-extend_from_slice-in-Ok-clause-taken :
    goal.returns-in_err-extend_from_slice-in-Ok-clause-taken
returns-in_err-extend_from_slice-in-Ok-clause-taken g c =
    takes_more _ _ _ _ _ _ _ c.reads.invariant.consumed c.in-Ok.ensures.consumed.0 (search rules)
