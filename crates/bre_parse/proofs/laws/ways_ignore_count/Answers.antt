use Rattle.bre_parse.proofs.TurnCounts.{ways_ignore_count}
use Rattle.bre_parse.proofs.laws.ways_ignore_count.Goals as goal

pub returns : goal.returns
returns c = record { law = ways_ignore_count }
