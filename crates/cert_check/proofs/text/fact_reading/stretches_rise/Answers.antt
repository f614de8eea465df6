use Rattle.std.proofs.Common.{◌-◌, ◌∙◌, arith, sym}
use Rattle.cert_check.specs.text.FactsText.{stretch_order}
use Rattle.cert_check.proofs.texts.ReadFacts.{rises-on, last-rises}
use Rattle.cert_check.proofs.text.fact_reading.stretches_rise.Goals as goal

pub loop-next-preserved : goal.loop-next-preserved
loop-next-preserved c =
    c.loop-next.invariant
    ∙ rises-on stretch_order c.args.stretches.now (c.loop-next.next - 1) c.loop-next.next _ _ (omega arith) (omega arith) c.index-stretches-next.is
    c.index-stretches-next-in-loop-next.is (sym c.if-not-is_stretch_before.ensures.value)

pub returns : goal.returns
returns c = record { value = sym (c.loop-next.invariant ∙ last-rises stretch_order c.args.stretches.now (c.loop-next.next - 1) (omega arith)) }
