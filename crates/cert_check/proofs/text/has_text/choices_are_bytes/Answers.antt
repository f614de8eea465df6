use Rattle.std.proofs.Common.{arith}
use Rattle.ed_rules.specs.Formed.{ChoiceIsBytes}
use Rattle.cert_check.proofs.texts.Limited.{all-more, all-end}
use Rattle.cert_check.proofs.text.has_text.choices_are_bytes.Goals as goal

pub loop-choice-preserved : goal.loop-choice-preserved
loop-choice-preserved c =
    all-more ChoiceIsBytes c.args.set.now c.loop-choice.choice-index c.choice-item.result (omega arith) c.choice-item.is c.loop-choice.invariant c.choice_is_bytes.ensures.bytes

pub returns : goal.returns
returns c = record { bytes = all-end ChoiceIsBytes c.args.set.now c.loop-choice.choice-index (omega arith) c.loop-choice.invariant }
