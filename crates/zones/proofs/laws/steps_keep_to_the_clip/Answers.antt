use Rattle.zones.proofs.Kept.{IsZone-any_zone, IsZone-after_guard, IsZone-after_set, IsZone-after_shift, IsZone-after_forget, IsZone-join_of, IsZone-widening_of, IsZone-after_put}
use Rattle.zones.proofs.laws.steps_keep_to_the_clip.Goals as goal

pub returns : goal.returns
returns c = record {
  any = IsZone-any_zone;
  guard = IsZone-after_guard;
  set = IsZone-after_set;
  shift = IsZone-after_shift;
  forget = IsZone-after_forget;
  join = IsZone-join_of;
  widen = IsZone-widening_of;
  put = IsZone-after_put;
}
