use Rattle.std.proofs.Common.{sym, ◌∙◌}
use Rattle.landmarks.proofs.SameChains.{sets_decide}
use Rattle.landmarks.proofs.sameness.are_one.Goals as goal

pub returns : goal.returns
returns c =
    let same = sets_decide c.members.result.now c.members-2.result.now c.eq.result c.eq.ensures in
    record {
      exact = (λ t. sym c.members.ensures.value ∙ same.0 t ∙ c.members-2.ensures.value, λ e. same.1 (c.members.ensures.value ∙ e ∙ sym c.members-2.ensures.value));
    }
