-- Where there are chains, the start has their landmarks.
use Rattle.std.proofs.Common.{◌∙◌, sym, true≢false}
use Rattle.ed_main.specs.Chains.{landmarked}
use Rattle.ed_main.proofs.proposing.landmarked.Goals as goal

pub returns-else-are_none-clause-landmarked : goal.returns-else-are_none-clause-landmarked
returns-else-are_none-clause-landmarked c =
    landmarked c.into_landmarks.result (λ is. true≢false (sym (c.are_none.ensures.exact.1 is) ∙ c.if-are_none.false)) c.into_landmarks.ensures.value
    c.with_landmarks.ensures.value
