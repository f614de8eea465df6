use Rattle.std.proofs.Common.{arith}
use Rattle.landmarks.specs.Misplaced.{IsWrong}
use Rattle.landmarks.proofs.Firsts.{if-none, if-some}
use Rattle.landmarks.proofs.places.if_alone.Goals as goal

pub returns-in-Some : goal.returns-in-Some
returns-in-Some c = record {
  value = IsWrong.repeated c.args.place c.in-Some.other c.requires.far (if-some _ c.in-Some.other _ _ c.in-Some.is c.in_ok-other.ensures.value);
}

pub if_matched-requires-clause-alone : goal.if_matched-requires-clause-alone
if_matched-requires-clause-alone c = if-none _ _ _ c.in-None.is c.in_ok-other.ensures.value

pub another-requires-clause-from : goal.another-requires-clause-from
another-requires-clause-from c = omega (arith, c.requires.far.distances.below)

pub another-requires-clause-inside : goal.another-requires-clause-inside
another-requires-clause-inside c = c.requires.far.distances.inside
