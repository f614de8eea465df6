use Rattle.bre_parse.proofs.LiteralWays.{literals_match_themselves}
use Rattle.bre_parse.proofs.laws.literals_match_themselves.Goals as goal

pub returns : goal.returns
returns c = record { law = literals_match_themselves }
