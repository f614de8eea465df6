use Rattle.cert_check.proofs.verdicts.FormedFacts.{in-form-formed, formed-in-form, in-form-once}
use Rattle.cert_check.proofs.laws.facts_in_form_can_be_written.Goals as goal

pub returns : goal.returns
returns c = record { formed = in-form-formed; already = formed-in-form; once = in-form-once }
