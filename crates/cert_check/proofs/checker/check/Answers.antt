use Rattle.ed_syntax.specs.PublicScript.{script_value}
use Rattle.cert_check.specs.Certificates.{certificate_value}
use Rattle.cert_check.proofs.verdicts.Judging.{sound-by}
use Rattle.cert_check.proofs.checker.check.Goals as goal

pub returns-clause-sound : goal.returns-clause-sound
returns-clause-sound c =
    sound-by c.judge.result (script_value c.args.script.now) (certificate_value c.args.certificate.now) c.accepted_scripts_cannot_fail.ensures.sound c.args.script.now.stand c.judge.ensures.exact
