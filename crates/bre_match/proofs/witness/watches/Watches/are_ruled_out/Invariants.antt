use Rattle.std.proofs.Common.{◌≡◌, drop}
use Rattle.bre_match.specs.Watches.{is_ruled_out}
use Rattle.bre_match.proofs.witness.watches.Watches.are_ruled_out.Given as goal

abbrev pub invariant-loop-at : goal.invariant-loop-at
invariant-loop-at l = is_ruled_out (drop l.at l.answers) (drop l.at l.self) ≡ is_ruled_out l.answers l.self
