-- the patterns so far may differ from a line
use Rattle.std.proofs.Common.{take}
use Rattle.std.specs.Prelude.{All}
use Rattle.landmarks.specs.Spelled.{MayDiffer}
use Rattle.landmarks.proofs.never.always_among.Given as goal

abbrev pub invariant-loop-pattern : goal.invariant-loop-pattern
invariant-loop-pattern l = All MayDiffer (take l.pattern-index l.patterns)
