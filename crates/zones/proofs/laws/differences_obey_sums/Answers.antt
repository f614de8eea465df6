use Rattle.zones.proofs.Soundness.{Obeys-sum_of}
use Rattle.zones.proofs.Known.{Obeys-less, Obeys-negative_sum, Obeys-twice_negative}
use Rattle.zones.proofs.laws.differences_obey_sums.Goals as goal

pub returns : goal.returns
returns c = record {
  less = Obeys-less;
  sum = Obeys-sum_of;
  negative_sum = Obeys-negative_sum;
  twice_negative = Obeys-twice_negative;
}
