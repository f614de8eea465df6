use Rattle.ed_rules.proofs.matches.Aside.{needs-same}
use Rattle.ed_rules.proofs.laws.needs_are_the_same_whatever_is_watched.Goals as goal

pub returns : goal.returns
returns c = record { needs = needs-same }
