use Rattle.std.proofs.Common.{◌≡◌, length}
use Rattle.remarks.specs.Patterns.{closes_at_end}
use Rattle.remarks.proofs.patterns.closes_at_end.Given as goal

abbrev pub invariant-parts : goal.invariant-parts
invariant-parts l = closes_at_end l.left ≡ closes_at_end l.parts

abbrev pub decreases-parts : goal.decreases-parts
decreases-parts l = length l.left
