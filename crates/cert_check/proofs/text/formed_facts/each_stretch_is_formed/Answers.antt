use Rattle.std.proofs.Common.{arith}
use Rattle.cert_check.specs.text.FactsText.{StretchIsFormed}
use Rattle.cert_check.proofs.texts.Limited.{all-more, all-end, all-fails}
use Rattle.cert_check.proofs.text.formed_facts.each_stretch_is_formed.Goals as goal

pub loop-stretch-preserved : goal.loop-stretch-preserved
loop-stretch-preserved c =
    all-more (StretchIsFormed c.args.marks.now) c.args.stretches.now c.loop-stretch.stretch-index c.stretch-item.result (omega arith) c.stretch-item.is
    c.loop-stretch.invariant (c.stretch_is_formed.ensures.exact.0 c.if-not-stretch_is_formed.false)

pub returns-then-not-stretch_is_formed : goal.returns-then-not-stretch_is_formed
returns-then-not-stretch_is_formed c = record {
  exact = (
    λ t. absurd cc,
    λ all. absurd (all-fails (StretchIsFormed c.args.marks.now) c.args.stretches.now c.loop-stretch.stretch-index c.stretch-item.result (omega arith) c.stretch-item.is
        (λ h. let yes = c.stretch_is_formed.ensures.exact.1 h in let is = c.if-not-stretch_is_formed.true in absurd cc) all),
  );
}

pub returns : goal.returns
returns c = record {
  exact = (
    λ _. all-end (StretchIsFormed c.args.marks.now) c.args.stretches.now c.loop-stretch.stretch-index (omega arith) c.loop-stretch.invariant,
    λ _. cc,
  );
}
