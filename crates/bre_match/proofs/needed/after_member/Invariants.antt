use Rattle.std.proofs.Common.{◌≡◌, drop}
use Rattle.bre_match.specs.Needs.{after_first}
use Rattle.bre_match.proofs.needed.after_member.Given as goal

abbrev pub invariant-loop-at : goal.invariant-loop-at
invariant-loop-at l = after_first l.set.negated l.set.ranges.items l.from (drop l.from l.text) ≡ after_first l.set.negated l.set.ranges.items l.at (drop l.at l.text)
