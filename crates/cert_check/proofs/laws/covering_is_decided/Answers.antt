use Rattle.cert_check.proofs.verdicts.Covering.{covers-says, says-covers}
use Rattle.cert_check.proofs.laws.covering_is_decided.Goals as goal

pub returns : goal.returns
returns c = record { exact = λ weak strong. (covers-says weak strong, says-covers weak strong) }
