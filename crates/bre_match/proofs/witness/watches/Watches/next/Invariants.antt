use Rattle.std.proofs.Common.{◌≡◌, ◌++◌, drop}
use Rattle.bre_match.specs.Watches.{next_watches}
use Rattle.bre_match.proofs.witness.watches.Watches.next.Given as goal

abbrev pub invariant-loop-at : goal.invariant-loop-at
invariant-loop-at l = l.each.items ++ next_watches (drop l.at l.answers) (drop l.at l.self) l.text l.place ≡ next_watches l.answers l.self l.text l.place
