use Rattle.zones.proofs.Places.{length-zone_by, bound-zone_by, zone_by-each}
use Rattle.zones.proofs.laws.bounds_are_formulas.Goals as goal

pub returns : goal.returns
returns c = record {
  size = length-zone_by;
  value = bound-zone_by;
  only = zone_by-each;
}
