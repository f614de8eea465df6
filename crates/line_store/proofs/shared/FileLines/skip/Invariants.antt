-- The lines that were passed, and those that are left.
use Rattle.std.proofs.Common.{◌≡◌, drop}
use Rattle.ed_base.specs.Lines.{lines_of}
use Rattle.line_store.proofs.shared.FileLines.skip.Given as goal

abbrev pub invariant-loop-i : goal.invariant-loop-i
invariant-loop-i l = lines_of l.self ≡ drop l._i (lines_of l.fn.self)
