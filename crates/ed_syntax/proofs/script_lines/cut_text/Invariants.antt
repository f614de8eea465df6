-- The text so far stands before the bytes that are left.
use Rattle.std.proofs.Common.{◌-◌, length, take}
use Rattle.ed_syntax.proofs.reader.TextCuts.{Cut}
use Rattle.ed_syntax.proofs.script_lines.cut_text.Given as goal

abbrev pub invariant-loop-line : goal.invariant-loop-line
invariant-loop-line l = Cut l.bytes (take (length l.bytes - length l.left) l.bytes) l.left l.passed

abbrev pub decreases-loop-line : goal.decreases-loop-line
decreases-loop-line l = length l.left
