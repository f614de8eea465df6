use Rattle.zones.proofs.Soundness.{Obeys-bound, Holds-any_zone, Holds-after_guard, Holds-after_set, Holds-after_shift, Holds-after_forget, Holds-join_of, Holds-join_of_other, Holds-widening_of, Holds-widening_of_other, Holds-after_put}
use Rattle.zones.proofs.laws.steps_are_sound.Goals as goal

pub returns : goal.returns
returns c = record {
  bound = Obeys-bound;
  any = Holds-any_zone;
  guard = Holds-after_guard;
  set = Holds-after_set;
  shift = Holds-after_shift;
  forget = Holds-after_forget;
  join = Holds-join_of;
  join_other = Holds-join_of_other;
  widen = Holds-widening_of;
  widen_other = Holds-widening_of_other;
  put = Holds-after_put;
}
