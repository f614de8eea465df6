-- The parts so far, before those that are left, are all of them; no line's number is skipped.
use Rattle.std.proofs.Common.{◌≡◌, ◌+◌, ◌≤◌, length}
use Rattle.ed_base.specs.Lines.{bytes_of}
use Rattle.ed_syntax.specs.reading.ReadParameters.{all_parts}
use Rattle.ed_syntax.proofs.reader.PartsSteps.{PartsLeft}
use Rattle.ed_syntax.proofs.substitution.parts.Given as goal

abbrev pub invariant-parts : goal.invariant-parts
invariant-parts l = record {
  left : PartsLeft l.delimiter l.left l.later.lines l.replacement (all_parts l.delimiter l.bytes l.fn.later.lines);
  number : l.later.number + length l.later.lines ≡ l.fn.later.number + length l.fn.later.lines;
  later : length l.later.lines ≤ length l.fn.later.lines;
}

abbrev pub decreases-parts : goal.decreases-parts
decreases-parts l = length l.left + length (bytes_of l.later.lines)
