use Rattle.cert_check.proofs.verdicts.FormedFacts.{known-given, clear-given, in-form-holds, in-form-stands}
use Rattle.cert_check.proofs.laws.facts_in_form_hold.Goals as goal

pub returns : goal.returns
returns c = record { lines = known-given; clear = clear-given; hold = in-form-holds; state = in-form-stands }
