use Rattle.cert_check.proofs.verdicts.Starting.{within-allowed, safe-in-bounds}
use Rattle.cert_check.proofs.laws.version_one_is_as_before.Goals as goal

pub returns : goal.returns
returns c = record {
  start = λ certificate lines one. (λ allowed. allowed.0, λ within. within-allowed certificate lines one within);
  sound = λ script certificate one stands accepted.
      safe-in-bounds script certificate one (c.accepted_scripts_cannot_fail.ensures.sound script certificate stands accepted);
}
