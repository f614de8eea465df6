use Rattle.zones.proofs.Known.{known-true, Obeys-least, Obeys-greatest}
use Rattle.zones.proofs.laws.known_bounds_are_true.Goals as goal

pub returns : goal.returns
returns c = record {
  known = known-true;
  least = Obeys-least;
  greatest = Obeys-greatest;
}
