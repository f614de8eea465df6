use Rattle.std.proofs.Common.{◌-◌, All, take}
use Rattle.ed_base.specs.Lines.{lines_of}
use Rattle.landmarks.specs.Places.{NoneMatches}
use Rattle.landmarks.proofs.places.between.Given as goal

abbrev pub invariant-loop-pattern : goal.invariant-loop-pattern
invariant-loop-pattern l = All (NoneMatches (lines_of l.file) l.before (l.place - 1)) (take l.pattern-index l.patterns)
