-- The lines that were passed are written.
use Rattle.std.proofs.Common.{◌≡◌, ◌++◌}
use Rattle.ed_base.specs.Buffer.{texts}
use Rattle.ed_base.specs.Lines.{AreLines, bytes_of}
use Rattle.ed_base.specs.Parts.{block}
use Rattle.line_store.proofs.chunk.Chunk.push_each.Given as goal

abbrev pub invariant-loop-i : goal.invariant-loop-i
invariant-loop-i l = record {
  bytes : l.output ≡ l.fn.output ++ bytes_of (texts (block l.from l.i l.self));
  are : AreLines (texts (block l.from l.i l.self));
}
