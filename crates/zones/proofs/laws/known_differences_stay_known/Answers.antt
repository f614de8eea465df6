use Rattle.zones.proofs.Fixed.{IsDifference-after_set, IsDifference-after_set_other, IsDifference-after_shift, IsDifference-after_shift_other, IsDifference-Holds}
use Rattle.zones.proofs.laws.known_differences_stay_known.Goals as goal

pub returns : goal.returns
returns c = record {
  set = IsDifference-after_set;
  set_others = IsDifference-after_set_other;
  shift = IsDifference-after_shift;
  shift_others = IsDifference-after_shift_other;
  meaning = IsDifference-Holds;
}
