-- The lines that were passed.
use Rattle.std.proofs.Common.{◌≡◌}
use Rattle.ed_base.specs.Buffer.{texts}
use Rattle.line_store.proofs.block.Block.from_lines.Given as goal

abbrev pub invariant-loop-line : goal.invariant-loop-line
invariant-loop-line l = texts l.bare.items ≡ texts l.yielded
