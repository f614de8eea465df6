use Rattle.std.proofs.Common.{◌-◌, ◌∙◌, arith, sym}
use Rattle.cert_check.specs.text.FactsText.{fact_order}
use Rattle.cert_check.proofs.texts.ReadFacts.{rises-on, last-rises}
use Rattle.cert_check.proofs.text.fact_reading.facts_rise.Goals as goal

pub loop-next-preserved : goal.loop-next-preserved
loop-next-preserved c =
    c.loop-next.invariant
    ∙ rises-on fact_order c.args.facts.now (c.loop-next.next - 1) c.loop-next.next _ _ (omega arith) (omega arith) c.index-facts-next.is
    c.index-facts-next-in-loop-next.is (sym c.if-not-is_fact_before.ensures.value)

pub returns : goal.returns
returns c = record { value = sym (c.loop-next.invariant ∙ last-rises fact_order c.args.facts.now (c.loop-next.next - 1) (omega arith)) }
