-- What is left of fewer patterns is left of all.
use Rattle.std.proofs.Common.{arith}
use Rattle.hints.proofs.Narrowed.{narrowed-further}
use Rattle.hints.proofs.widest.widest_of.Goals as goal

pub returns-clause-narrowed : goal.returns-clause-narrowed
returns-clause-narrowed c =
    narrowed-further c.args.given.now c.args.min c.args.min c.in_ok-fewer.fewer.items c.args.added.now c.widest_beside.result (omega arith)
    c.in_ok-fewer.ensures.among c.widest_beside.ensures.narrowed
