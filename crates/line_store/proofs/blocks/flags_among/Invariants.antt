-- The lines that were passed are counted.
use Rattle.std.proofs.Common.{◌≡◌, ◌+◌, ◌≤◌}
use Rattle.ed_base.specs.Parts.{block}
use Rattle.line_store.specs.Kept.{flag_count}
use Rattle.line_store.proofs.blocks.flags_among.Given as goal

abbrev pub invariant-loop-i : goal.invariant-loop-i
invariant-loop-i g l = record {
  flags : l.flags ≡ flag_count (block l.from l.i (g.L.BareLines.items l.lines));
  few : l.flags + l.from ≤ l.i;
}
