use Rattle.zones.proofs.Diagonal.{HasLowDiagonal-any_zone, HasLowDiagonal-after_guard, HasLowDiagonal-after_set, HasLowDiagonal-after_shift, HasLowDiagonal-after_forget, HasLowDiagonal-join_of, HasLowDiagonal-widening_of}
use Rattle.zones.proofs.laws.steps_keep_diagonals_low.Goals as goal

pub returns : goal.returns
returns c = record {
  any = HasLowDiagonal-any_zone;
  guard = HasLowDiagonal-after_guard;
  set = HasLowDiagonal-after_set;
  shift = HasLowDiagonal-after_shift;
  forget = HasLowDiagonal-after_forget;
  join = HasLowDiagonal-join_of;
  widen = HasLowDiagonal-widening_of;
}
