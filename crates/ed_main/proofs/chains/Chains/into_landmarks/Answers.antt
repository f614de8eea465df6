-- The texts are those that are seen, and each spells its chain.
use Rattle.ed_main.proofs.chains.Chains.into_landmarks.Goals as goal

pub returns : goal.returns
returns c = record { value = record { stated = c.self.view_is; spelled = c.self.invariant } }
