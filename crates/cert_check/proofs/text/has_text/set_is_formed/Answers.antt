use Rattle.std.proofs.Common.{List, subst}
use Rattle.ed_rules.specs.Choices.{Choice}
use Rattle.ed_rules.specs.Formed.{SetIsFormed}
use Rattle.cert_check.proofs.texts.ReadSets.{set-formed}
use Rattle.cert_check.proofs.text.has_text.set_is_formed.Goals as goal

pub returns : goal.returns
returns c = record {
  formed =
      subst (λ (set : List Choice). SetIsFormed set) c.members.ensures.value
      (set-formed c.members.result.now c.choices_are_bytes.ensures.bytes c.members.ensures.rising);
}
