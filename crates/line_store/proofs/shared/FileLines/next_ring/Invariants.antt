-- The lines that were taken stand before those that are left.
use Rattle.std.proofs.Common.{◌≡◌, ◌≤◌, ◌++◌, ◌-◌, drop, false, length, map, slice_range}
use Rattle.std.specs.Prelude.{vec_capacity}
use Rattle.ed_base.specs.Buffer.{plain_line, texts}
use Rattle.ed_base.specs.Lines.{lines_of}
use Rattle.line_store.specs.Chunks.{full}
use Rattle.line_store.specs.Kept.{flag_count}
use Rattle.line_store.specs.Runs.{RunOf, run_bytes}
use Rattle.line_store.proofs.shared.FileLines.next_ring.Given as goal

abbrev pub invariant-lines : goal.invariant-lines
invariant-lines l = record {
  taken : lines_of l.fn.self ≡ texts l.row.items ++ lines_of (drop l.next l.bytes);
  place : l.next ≤ length l.bytes;
  room : full ≤ vec_capacity l.row;
  few : length l.row.items ≤ full;
  plain : l.row.items ≡ map plain_line (texts l.row.items);
  unflagged : flag_count l.row.items ≡ 0;
  order : l.initial.next ≤ l.next;
  run : RunOf (run_bytes (slice_range l.bytes l.initial.next l.next) l.ended) l.row.items;
  last : l.ended ≡ false → l.next ≡ length l.bytes;
}

abbrev pub decreases-lines : goal.decreases-lines
decreases-lines l = full - length l.row.items
