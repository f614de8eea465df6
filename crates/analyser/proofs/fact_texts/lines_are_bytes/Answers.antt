use Rattle.std.proofs.Common.{arith}
use Rattle.ed_rules.specs.facts.Facts.{LineFact}
use Rattle.cert_check.specs.text.FactsText.{AreBytes}
use Rattle.cert_check.proofs.texts.Limited.{all-more, all-end}
use Rattle.analyser.proofs.fact_texts.lines_are_bytes.Goals as goal

pub loop-fact-preserved : goal.loop-fact-preserved
loop-fact-preserved c =
    all-more (λ (f : LineFact). AreBytes f.pattern) c.args.lines.now c.loop-fact.fact-index c.fact-item.result (omega arith) c.fact-item.is c.loop-fact.invariant
    c.line_is_bytes.ensures.bytes

pub returns : goal.returns
returns c = record { bytes = all-end (λ (f : LineFact). AreBytes f.pattern) c.args.lines.now c.loop-fact.fact-index (omega arith) c.loop-fact.invariant }
