use Rattle.std.proofs.Common.{◌≡◌, drop}
use Rattle.bre_match.specs.Spans.{none_up_to}
use Rattle.bre_match.proofs.span.is_over.Given as goal

abbrev pub invariant-loop-mark : goal.invariant-loop-mark
invariant-loop-mark l = none_up_to l.best.0 (drop l.mark-index l.marks) ≡ none_up_to l.best.0 l.marks
