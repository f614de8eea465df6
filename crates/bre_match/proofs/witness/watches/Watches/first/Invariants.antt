use Rattle.std.proofs.Common.{◌≡◌, ◌++◌, drop}
use Rattle.bre_match.specs.Watches.{first_watches}
use Rattle.bre_match.proofs.witness.watches.Watches.first.Given as goal

abbrev pub invariant-loop-answer : goal.invariant-loop-answer
invariant-loop-answer l = l.each.items ++ first_watches (drop l.answer-index l.answers) ≡ first_watches l.answers
