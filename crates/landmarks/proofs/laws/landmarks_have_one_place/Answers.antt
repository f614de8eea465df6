use Rattle.landmarks.proofs.Placed.{places-one, misplaced-nowhere}
use Rattle.landmarks.proofs.laws.landmarks_have_one_place.Goals as goal

pub returns : goal.returns
returns c = record { one = places-one; none = misplaced-nowhere }
