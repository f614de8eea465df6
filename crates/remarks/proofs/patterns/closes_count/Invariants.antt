use Rattle.std.proofs.Common.{◌≡◌, drop}
use Rattle.remarks.specs.Patterns.{closes_count}
use Rattle.remarks.proofs.patterns.closes_count.Given as goal

abbrev pub invariant-loop-part : goal.invariant-loop-part
invariant-loop-part l = closes_count l.parts ≡ closes_count (drop l.part-index l.parts)
