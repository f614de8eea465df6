use Rattle.zones.proofs.Fixed.{Fixes-fewer, Fixes-IsDifference, Fixes-any_zone, Fixes-after_set, Fixes-after_shift, Fixes-after_forget, Fixes-join_of, Fixes-widening_of}
use Rattle.zones.proofs.Guarded.{Fixes-after_guard, Fixes-after_guards}
use Rattle.zones.proofs.laws.fixed_names_stay_fixed.Goals as goal

pub returns : goal.returns
returns c = record {
  meaning = Fixes-IsDifference;
  any = Fixes-any_zone;
  set = Fixes-after_set;
  shift = Fixes-after_shift;
  forget = Fixes-after_forget;
  guard = Fixes-after_guard;
  guards = Fixes-after_guards;
  fewer = Fixes-fewer;
  join = Fixes-join_of;
  widen = Fixes-widening_of;
}
