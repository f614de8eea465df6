use Rattle.std.proofs.Common.{ℕ, subst, arith}
use Rattle.landmarks.specs.Places.{HasDistances}
use Rattle.landmarks.specs.Misplaced.{IsWrongDistance, IsWrong}
use Rattle.landmarks.proofs.places.if_far_enough.Goals as goal

pub returns-in-Some : goal.returns-in-Some
returns-in-Some c = record {
  value = IsWrong.far c.args.place c.in-Some.why c.requires.sought (omega (arith, c.requires.inside, c.requires.last))
      (subst (λ (n : ℕ). IsWrongDistance n c.args.before c.args.landmark.now c.args.place c.in-Some.why) c.requires.last c.in-Some.ensures.value);
}

pub if_alone-requires : goal.if_alone-requires
if_alone-requires c = record {
  far = record {
    sought = c.requires.sought;
    distances = subst (λ (n : ℕ). HasDistances n c.args.before c.args.landmark.now c.args.place) c.requires.last c.in-None.ensures.value;
  };
}
