use Rattle.std.proofs.Common.{◌≡◌, drop}
use Rattle.ed_base.specs.Lines.{lines_of}
use Rattle.landmarks.proofs.looking.after_lines.Given as goal

abbrev pub invariant-loop-passed : goal.invariant-loop-passed
invariant-loop-passed l = lines_of l.left ≡ drop l._passed (lines_of l.file)
