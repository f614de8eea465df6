use Rattle.std.proofs.Common.{refl}
use Rattle.zones.specs.Zone.{bound, zone_by}
use Rattle.zones.specs.Steps.{any_zone, join_of, join_bound, widening_of, widening_bound, after_put, put_bound}
use Rattle.zones_tests.proofs.rows.rows_of_two_zones.Goals as goal

pub returns : goal.returns
unfolding bound zone_by any_zone join_of join_bound widening_of widening_bound after_put put_bound
returns c = record { bounds = (refl, refl, refl, refl, refl); diagonal = (refl, refl, refl); zones = (refl, refl, refl) }
