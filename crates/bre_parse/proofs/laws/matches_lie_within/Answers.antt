use Rattle.bre_parse.proofs.GroupsWithin.{matches_lie_within}
use Rattle.bre_parse.proofs.laws.matches_lie_within.Goals as goal

pub returns : goal.returns
returns c = record { law = matches_lie_within }
