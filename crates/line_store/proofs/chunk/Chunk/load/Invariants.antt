-- The lines that were passed have come in.
use Rattle.std.proofs.Common.{◌≡◌, map}
use Rattle.ed_base.specs.Buffer.{plain_line, texts}
use Rattle.line_store.proofs.chunk.Chunk.load.Given as goal

abbrev pub invariant-loop-line : goal.invariant-loop-line
invariant-loop-line l = l.self ≡ map plain_line (texts l.yielded)
