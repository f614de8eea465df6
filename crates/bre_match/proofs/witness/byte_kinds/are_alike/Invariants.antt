use Rattle.std.proofs.Common.{take}
use Rattle.bre_match.specs.ByteKinds.{AreAlike}
use Rattle.bre_match.proofs.witness.byte_kinds.are_alike.Given as goal

abbrev pub invariant-loop-answer : goal.invariant-loop-answer
invariant-loop-answer l = AreAlike (take l.answer-index l.answers) l.byte l.other
