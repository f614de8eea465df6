use Rattle.cert_check.proofs.texts.FactWords.{one-facts, one-old-facts}
use Rattle.cert_check.proofs.laws.facts_have_one_text.Goals as goal

pub returns : goal.returns
returns c = record { one = one-facts; old = one-old-facts }
