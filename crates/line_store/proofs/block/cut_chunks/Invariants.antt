-- The lines in chunks stand before those that are left.
use Rattle.std.proofs.Common.{◌≡◌, ◌++◌, length}
use Rattle.ed_base.specs.Buffer.{texts}
use Rattle.ed_base.specs.Lines.{lines_of}
use Rattle.line_store.specs.Chunks.{joined}
use Rattle.line_store.specs.Kept.{flag_count}
use Rattle.line_store.proofs.block.cut_chunks.Given as goal

abbrev pub invariant-chunks : goal.invariant-chunks
invariant-chunks l = record {
  taken : lines_of l.fn.file ≡ texts (joined l.chunks.items) ++ lines_of l.rest;
  count : l.count ≡ length (joined l.chunks.items);
  unflagged : flag_count (joined l.chunks.items) ≡ 0;
}

abbrev pub decreases-chunks : goal.decreases-chunks
decreases-chunks l = length (lines_of l.rest)
