use Rattle.std.proofs.Common.{◌≡◌, drop}
use Rattle.bre_match.specs.Alike.{same_asked}
use Rattle.bre_match.proofs.alike.same_asked.Given as goal

abbrev pub invariant-loop-group : goal.invariant-loop-group
invariant-loop-group l = same_asked l.asked l.ones l.others ≡ same_asked (drop l.group l.asked) (drop l.group l.ones) (drop l.group l.others)
