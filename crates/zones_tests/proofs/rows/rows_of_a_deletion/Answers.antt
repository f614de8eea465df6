use Rattle.std.proofs.Common.{refl}
use Rattle.zones.specs.Zone.{bound, zone_by}
use Rattle.zones.specs.Steps.{any_zone, after_guard, guard_bound, after_set, set_bound, after_shift, shift_bound, after_forget, forget_bound}
use Rattle.zones_tests.proofs.rows.rows_of_a_deletion.Goals as goal

pub returns : goal.returns
unfolding bound zone_by any_zone after_guard guard_bound after_set set_bound after_shift shift_bound after_forget forget_bound
returns c = record { set = (refl, refl, refl); shift = (refl, refl, refl, refl); forget = (refl, refl) }
