use Rattle.std.proofs.Common.{◌≡◌, drop}
use Rattle.remarks.specs.Told.{tells}
use Rattle.remarks.proofs.finding.tells.Given as goal

abbrev pub invariant-loop-remarked : goal.invariant-loop-remarked
invariant-loop-remarked l = tells l.slip l.found ≡ tells l.slip (drop l.remarked-index l.found)
