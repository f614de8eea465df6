use Rattle.zones.proofs.Isolated.{IsIsolated-any_zone, IsIsolated-after_guard, IsIsolated-after_set, IsIsolated-after_shift, IsIsolated-after_forget, IsIsolated-join_of, IsIsolated-widening_of, IsIsolated-forgotten}
use Rattle.zones.proofs.laws.isolated_names_stay_isolated.Goals as goal

pub returns : goal.returns
returns c = record {
  any = IsIsolated-any_zone;
  guard = IsIsolated-after_guard;
  set = IsIsolated-after_set;
  shift = IsIsolated-after_shift;
  forget = IsIsolated-after_forget;
  join = IsIsolated-join_of;
  widen = IsIsolated-widening_of;
  forgotten = IsIsolated-forgotten;
}
