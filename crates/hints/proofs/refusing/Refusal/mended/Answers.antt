use Rattle.hints.specs.Refusals.{hinted}
use Rattle.hints.proofs.refusing.Refusal.mended.Goals as goal

pub returns-in-Some : goal.returns-in-Some
returns-in-Some c =
    let is = rw c.in-Some.is at c.in_ok-hinted.ensures.value in record { value = hinted is.0 is.1 is.2 is.3 is.4 }
