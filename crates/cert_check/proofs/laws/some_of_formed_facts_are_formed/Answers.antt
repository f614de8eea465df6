use Rattle.cert_check.proofs.verdicts.FormedFacts.{some-formed}
use Rattle.cert_check.proofs.laws.some_of_formed_facts_are_formed.Goals as goal

pub returns : goal.returns
returns c = record { some = some-formed }
