use Rattle.std.proofs.Common.{take}
use Rattle.std.specs.List.{All}
use Rattle.bre_match.specs.Watches.{IsPlain}
use Rattle.bre_match.proofs.witness.are_plain.Given as goal

abbrev pub invariant-loop-answer : goal.invariant-loop-answer
invariant-loop-answer l = All IsPlain (take l.answer-index l.answers)
