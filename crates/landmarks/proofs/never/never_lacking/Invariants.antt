-- the patterns so far can be lacking
use Rattle.std.proofs.Common.{take}
use Rattle.std.specs.Prelude.{All}
use Rattle.landmarks.specs.Spelled.{CanLack}
use Rattle.landmarks.proofs.never.never_lacking.Given as goal

abbrev pub invariant-loop-pattern : goal.invariant-loop-pattern
invariant-loop-pattern l = All (CanLack l.landmark) (take l.pattern-index l.pattern-items)
