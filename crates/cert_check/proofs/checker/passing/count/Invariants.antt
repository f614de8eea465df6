use Rattle.cert_check.proofs.verdicts.Counting.{CountedTo}
use Rattle.cert_check.proofs.checker.passing.count.Given as goal

-- what is counted from here on
abbrev pub invariant-loop-index : goal.invariant-loop-index
invariant-loop-index l = CountedTo l.commands l.index
