use Rattle.std.proofs.Common.{take}
use Rattle.std.specs.List.{All}
use Rattle.bre_match.specs.Witness.{IsAnswered}
use Rattle.bre_match.proofs.witness.are_answered.Given as goal

abbrev pub invariant-loop-answer : goal.invariant-loop-answer
invariant-loop-answer l = All (IsAnswered l.text) (take l.answer-index l.answers)
