use Rattle.std.proofs.Common.{refl}
use Rattle.zones.specs.Zone.{bound, zone_by}
use Rattle.zones.specs.Steps.{any_zone, after_guard, guard_bound, after_set, set_bound, after_shift, shift_bound, after_put, put_bound}
use Rattle.zones_tests.proofs.rows.rows_of_the_clip.Goals as goal

pub returns : goal.returns
unfolding bound zone_by any_zone after_guard guard_bound after_set set_bound after_shift shift_bound after_put put_bound
returns c = record {
  above = (refl, refl, refl);
  below = (refl, refl, refl);
  ends_of_64_bits = (refl, refl, refl, refl, refl, refl);
}
