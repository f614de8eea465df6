use Rattle.zones.proofs.Formulas.{bound-any_zone, bound-after_guard, bound-after_set, bound-after_shift, bound-after_forget, bound-join_of, bound-widening_of, bound-after_put}
use Rattle.zones.proofs.laws.steps_are_formulas.Goals as goal

pub returns : goal.returns
returns c = record {
  any = bound-any_zone;
  guard = bound-after_guard;
  set = bound-after_set;
  shift = bound-after_shift;
  forget = bound-after_forget;
  join = bound-join_of;
  widen = bound-widening_of;
  put = bound-after_put;
}
