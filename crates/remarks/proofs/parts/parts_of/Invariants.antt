use Rattle.std.proofs.Common.{◌≡◌, ◌++◌, length}
use Rattle.remarks.specs.Parts.{parts_of, parts_after}
use Rattle.remarks.proofs.parts.parts_of.Given as goal

abbrev pub invariant-bytes : goal.invariant-bytes
invariant-bytes l = l.parts.items ++ parts_after l.passed l.left ≡ parts_of l.text

abbrev pub decreases-bytes : goal.decreases-bytes
decreases-bytes l = length l.left
