use Rattle.std.proofs.Common.{arith}
use Rattle.cert_check.specs.text.FactsText.{FactIsFormed}
use Rattle.cert_check.proofs.texts.Limited.{all-more, all-end, all-fails}
use Rattle.cert_check.proofs.text.formed_facts.each_fact_is_formed.Goals as goal

pub loop-fact-preserved : goal.loop-fact-preserved
loop-fact-preserved c =
    all-more (FactIsFormed c.args.marks.now) c.args.facts.now c.loop-fact.fact-index c.fact-item.result (omega arith) c.fact-item.is
    c.loop-fact.invariant (c.fact_is_formed.ensures.exact.0 c.if-not-fact_is_formed.false)

pub returns-then-not-fact_is_formed : goal.returns-then-not-fact_is_formed
returns-then-not-fact_is_formed c = record {
  exact = (
    λ t. absurd cc,
    λ all. absurd (all-fails (FactIsFormed c.args.marks.now) c.args.facts.now c.loop-fact.fact-index c.fact-item.result (omega arith) c.fact-item.is
        (λ h. let yes = c.fact_is_formed.ensures.exact.1 h in let is = c.if-not-fact_is_formed.true in absurd cc) all),
  );
}

pub returns : goal.returns
returns c = record {
  exact = (
    λ _. all-end (FactIsFormed c.args.marks.now) c.args.facts.now c.loop-fact.fact-index (omega arith) c.loop-fact.invariant,
    λ _. cc,
  );
}
