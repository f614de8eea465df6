use Rattle.cert_check.proofs.texts.OneText.{one-text}
use Rattle.cert_check.proofs.laws.texts_are_unambiguous.Goals as goal

pub returns : goal.returns
returns c = record { one = λ bytes one other h k. one-text bytes one other h k }
