use Rattle.std.proofs.Common.{take}
use Rattle.std.specs.List.{All}
use Rattle.cert_check.specs.text.FactsText.{StretchIsFormed}
use Rattle.cert_check.proofs.text.formed_facts.each_stretch_is_formed.Given as goal

abbrev pub invariant-loop-stretch : goal.invariant-loop-stretch
invariant-loop-stretch l = All (StretchIsFormed l.marks) (take l.stretch-index l.stretches)
