-- The lines that were written, and those that are left.
use Rattle.std.proofs.Common.{◌≡◌, ◌++◌, drop, take}
use Rattle.ed_base.specs.Lines.{bytes_of, lines_of}
use Rattle.line_store.proofs.shared.FileLines.push_next.Given as goal

abbrev pub invariant-loop-i : goal.invariant-loop-i
invariant-loop-i l = record {
  left : lines_of l.self ≡ drop l._i (lines_of l.fn.self);
  written : l.output ≡ l.fn.output ++ bytes_of (take l._i (lines_of l.fn.self));
}
