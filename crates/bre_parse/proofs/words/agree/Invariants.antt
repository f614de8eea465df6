use Rattle.std.proofs.Common.{◌≡◌, drop}
use Rattle.bre_parse.specs.Words.{agree}
use Rattle.bre_parse.proofs.words.agree.Given as goal

abbrev pub invariant-loop-at : goal.invariant-loop-at
invariant-loop-at l = agree (drop l.at l.one) (drop l.at l.other) ≡ agree l.one l.other
