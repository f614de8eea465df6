use Rattle.ed_calls.specs.Check.{Checks}
use Rattle.ed_calls.proofs.Sayings.{check_status, says_of}
use Rattle.ed_calls.proofs.checking.check_text.Goals as goal

pub returns-clause-says : goal.returns-clause-says
returns-clause-says g c = says_of (Checks c.args.script.now c.args.certificate.now) c.checked.result _ _ c.checked.ensures.value c.tell.ensures.says

pub returns-clause-status : goal.returns-clause-status
returns-clause-status g c = check_status c.args.script.now c.args.certificate.now _ _ (returns-clause-says g c)
