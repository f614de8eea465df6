use Rattle.ed_calls.specs.Explains.{ExplainsBy}
use Rattle.ed_calls.proofs.Explanations.{by_status}
use Rattle.ed_calls.proofs.Sayings.{says_of}
use Rattle.ed_calls.proofs.explaining.explain_certificate.Goals as goal

pub returns-clause-says : goal.returns-clause-says
returns-clause-says g c = says_of (ExplainsBy c.args.script.now c.args.certificate.now) c.certificate_told.result _ _ c.certificate_told.ensures.value c.tell.ensures.says

pub returns-clause-status : goal.returns-clause-status
returns-clause-status g c = by_status c.args.script.now c.args.certificate.now _ _ (returns-clause-says g c)
