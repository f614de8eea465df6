use Rattle.zones.proofs.Known.{updated-same, updated-other, Holds-same}
use Rattle.zones.proofs.laws.numbers_are_updated.Goals as goal

pub returns : goal.returns
returns c = record {
  same = updated-same;
  others = updated-other;
  equal = Holds-same;
}
