use Rattle.std.proofs.Common.{inl, inr, arith}
use Rattle.landmarks.specs.Misplaced.{IsWrongDistance}
use Rattle.landmarks.proofs.places.distance_fault.Goals as goal
use Rattle.landmarks.proofs.places.distance_fault.Goals.{then-place-before-via-then-place-before, then-place-before-via-else-place-before+then-place-before-2}

pub returns-then-place-before : goal.returns-then-place-before
returns-then-place-before c = record {
  value = elim c.then-place-before.branch [
    | then-place-before-via-then-place-before w ↦ IsWrongDistance.near (inl w.if-place-before.true)
    | then-place-before-via-else-place-before+then-place-before-2 w ↦ IsWrongDistance.near (inr (omega (arith, w.if-place-before.false, w.if-place-before-2.true)))
  ];
}

pub returns-then-last-place : goal.returns-then-last-place
returns-then-last-place c = record {
  value = IsWrongDistance.late c.if-place-before.false (omega (arith, c.if-place-before.false, c.if-place-before-2.false)) (omega (arith, c.requires.inside, c.if-last-place.true));
}
