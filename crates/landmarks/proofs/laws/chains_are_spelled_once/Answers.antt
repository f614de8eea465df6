use Rattle.landmarks.proofs.Chains.{chain-one}
use Rattle.landmarks.proofs.laws.chains_are_spelled_once.Goals as goal

pub returns : goal.returns
returns c = record { unambiguous = chain-one }
