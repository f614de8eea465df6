use Rattle.std.proofs.Common.{arith}
use Rattle.ed_rules.specs.facts.Facts.{Stretch}
use Rattle.cert_check.specs.text.FactsText.{AreBytes}
use Rattle.cert_check.proofs.texts.Limited.{all-more, all-end}
use Rattle.analyser.proofs.fact_texts.clear_is_bytes.Goals as goal

pub loop-stretch-preserved : goal.loop-stretch-preserved
loop-stretch-preserved c =
    all-more (λ (s : Stretch). AreBytes s.pattern) c.args.clear.now c.loop-stretch.stretch-index c.stretch-item.result (omega arith) c.stretch-item.is
    c.loop-stretch.invariant
    c.stretch_is_bytes.ensures.bytes

pub returns : goal.returns
returns c = record { bytes = all-end (λ (s : Stretch). AreBytes s.pattern) c.args.clear.now c.loop-stretch.stretch-index (omega arith) c.loop-stretch.invariant }
