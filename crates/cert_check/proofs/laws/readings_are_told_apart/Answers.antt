use Rattle.cert_check.proofs.texts.Apart.{text-apart, version-apart, line-apart, size-apart}
use Rattle.cert_check.proofs.laws.readings_are_told_apart.Goals as goal

pub returns : goal.returns
returns c = record { text = text-apart; version = version-apart; line = line-apart; size = size-apart }
