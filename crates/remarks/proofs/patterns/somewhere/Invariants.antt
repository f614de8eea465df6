use Rattle.std.proofs.Common.{◌≡◌, length}
use Rattle.remarks.specs.Patterns.{begins_with, somewhere}
use Rattle.remarks.proofs.patterns.somewhere.Given as goal

abbrev pub invariant-parts : goal.invariant-parts
invariant-parts l = somewhere (begins_with l.slip) l.left ≡ somewhere (begins_with l.slip) l.parts

abbrev pub decreases-parts : goal.decreases-parts
decreases-parts l = length l.left
