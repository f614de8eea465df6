-- A line of its chunk is another.
use Rattle.std.proofs.Common.{◌∙◌}
use Rattle.line_store.proofs.Found.{found, line-found, exchanged-found}
use Rattle.line_store.proofs.chunks.ChunkLinesBareLines.exchange.Goals as goal

pub returns-clause-value : goal.returns-clause-value
returns-clause-value c =
    c.exchange_in.ensures.value
    ∙ line-found c.exchange_in.result
    (found c.args.i c.chunk_of-k.result c.start.result c.args.self.now c.chunk_of-k.ensures.chunk c.start.ensures.value)

pub returns-clause-exchanged : goal.returns-clause-exchanged
returns-clause-exchanged c =
    exchanged-found c.exchange_in.new.self c.args.line
    (found c.args.i c.chunk_of-k.result c.start.result c.args.self.now c.chunk_of-k.ensures.chunk c.start.ensures.value)
    c.exchange_in.ensures.exchanged
