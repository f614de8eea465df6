use Rattle.std.proofs.Common.{◌≡◌, false, All, take}
use Rattle.ed_syntax.specs.meaning.Values.{matches}
use Rattle.landmarks.proofs.places.first_matched.Given as goal

abbrev pub invariant-loop-pattern : goal.invariant-loop-pattern
invariant-loop-pattern l = All (λ pattern. matches pattern l.line ≡ false) (take l.pattern-index l.patterns)
