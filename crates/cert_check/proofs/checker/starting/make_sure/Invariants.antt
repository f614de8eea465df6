-- the letters that are left make the same sure
use Rattle.std.proofs.Common.{◌≡◌, drop}
use Rattle.cert_check.specs.checker.Beginning.{with_sure}
use Rattle.cert_check.proofs.checker.starting.make_sure.Given as goal

abbrev pub invariant-loop-letter : goal.invariant-loop-letter
invariant-loop-letter l = with_sure (drop l.letter-index l.letters) l.marks ≡ with_sure l.letters l.initial.marks
