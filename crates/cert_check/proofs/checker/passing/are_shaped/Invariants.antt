use Rattle.std.proofs.Common.{◌≡◌}
use Rattle.cert_check.proofs.verdicts.Judging.{shape_from}
use Rattle.cert_check.proofs.checker.passing.are_shaped.Given as goal

-- the notes before this one fit
abbrev pub invariant-loop-index : goal.invariant-loop-index
invariant-loop-index l = shape_from l.commands l.notes 0 ≡ shape_from l.commands l.notes l.index
