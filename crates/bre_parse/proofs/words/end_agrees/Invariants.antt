use Rattle.std.proofs.Common.{◌≡◌, drop}
use Rattle.bre_parse.specs.Words.{end_agrees}
use Rattle.bre_parse.proofs.words.end_agrees.Given as goal

abbrev pub invariant-loop-at : goal.invariant-loop-at
invariant-loop-at l = end_agrees (drop l.at l.one) l.other ≡ end_agrees l.one l.other
