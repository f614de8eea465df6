-- Each pattern that was passed is matched by some line.
use Rattle.std.proofs.Common.{◌≡◌, drop}
use Rattle.ed_base.specs.Lines.{lines_of}
use Rattle.ed_calls.specs.StartTest.{first_unmatched}
use Rattle.ed_calls.proofs.stated.unmatched_over.Given as goal

abbrev pub invariant-loop-pattern : goal.invariant-loop-pattern
invariant-loop-pattern l = first_unmatched l.patterns (lines_of l.file) ≡ first_unmatched (drop l.pattern-index l.patterns) (lines_of l.file)
