use Rattle.zones.proofs.Soundness.{Holds-covers}
use Rattle.zones.proofs.laws.covering_is_weaker.Goals as goal

pub returns : goal.returns
returns c = record {
  sound = Holds-covers;
}
