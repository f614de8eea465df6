use Rattle.std.proofs.Common.{◌≡◌, drop}
use Rattle.bre_match.specs.States.{none_marked}
use Rattle.bre_match.proofs.state.none_marked.Given as goal

abbrev pub invariant-loop-mark : goal.invariant-loop-mark
invariant-loop-mark l = none_marked (drop l.mark-index l.marks) ≡ none_marked l.marks
