-- A chunk that begins at a later place is a later one.
use Rattle.std.proofs.Common.{arith}
use Rattle.line_store.proofs.Taken.{in-order}
use Rattle.line_store.proofs.chunks.ChunkLines.chunks_from.Goals as goal

pub returns-clause-order : goal.returns-clause-order
returns-clause-order c =
    in-order c.args.self.now.chunks c.in_ok-low.low c.in_ok-high.high c.args.from c.args.to c.in_ok-low.ensures.value.1 c.in_ok-high.ensures.value.1 (omega arith)
