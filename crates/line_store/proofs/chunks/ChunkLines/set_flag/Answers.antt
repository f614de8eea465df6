-- A line of its chunk has another flag.
use Rattle.line_store.proofs.Found.{found, flagged-found}
use Rattle.line_store.proofs.chunks.ChunkLines.set_flag.Goals as goal

pub returns : goal.returns
returns c =
    record {
      flagged =
          flagged-found c.flag_in.new.self c.args.flag
          (found c.args.i c.chunk_of-k.result c.start.result c.args.self.now c.chunk_of-k.ensures.chunk c.start.ensures.value)
          c.flag_in.ensures.flagged;
    }
