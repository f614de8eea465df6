use Rattle.analyser.proofs.Determined.{either-comes, certificate-once, failure-once}
use Rattle.analyser.proofs.laws.answers_are_determined.Goals as goal

pub returns : goal.returns
returns c = record { either = either-comes; certificate = certificate-once; failure = failure-once }
