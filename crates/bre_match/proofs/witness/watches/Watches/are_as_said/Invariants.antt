use Rattle.std.proofs.Common.{◌≡◌, drop}
use Rattle.bre_match.specs.Watches.{are_as_said}
use Rattle.bre_match.proofs.witness.watches.Watches.are_as_said.Given as goal

abbrev pub invariant-loop-at : goal.invariant-loop-at
invariant-loop-at l = are_as_said (drop l.at l.answers) (drop l.at l.self) ≡ are_as_said l.answers l.self
