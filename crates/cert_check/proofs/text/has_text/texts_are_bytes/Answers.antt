use Rattle.std.proofs.Common.{arith, Some, subst, List, ℕ}
use Rattle.std.proofs.lemmas.List.Elements.{All-map}
use Rattle.ed_rules.specs.Formed.{ChoiceIsBytes}
use Rattle.cert_check.proofs.texts.Limited.{all-more, all-end}
use Rattle.cert_check.proofs.text.has_text.texts_are_bytes.Goals as goal

pub loop-text-preserved : goal.loop-text-preserved
loop-text-preserved c =
    all-more (λ text. ChoiceIsBytes (Some text)) c.args.texts.now c.loop-text.text-index c.text-item.result (omega arith) c.text-item.is c.loop-text.invariant
    (subst (λ (bytes : List ℕ). ChoiceIsBytes (Some bytes)) c.as_slice.ensures.value c.are_bytes.ensures.bytes)

pub returns : goal.returns
returns c = record {
  bytes =
      All-map ChoiceIsBytes Some c.args.texts.now
      (all-end (λ text. ChoiceIsBytes (Some text)) c.args.texts.now c.loop-text.text-index (omega arith) c.loop-text.invariant);
}
