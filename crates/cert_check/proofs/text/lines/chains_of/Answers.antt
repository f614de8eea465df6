use Rattle.std.proofs.Common.{arith, ◌∙◌, sym, ap, subst, ℕ, List, map}
use Rattle.std.proofs.lemmas.List.{take_all}
use Rattle.landmarks.specs.Spelled.{NoChain}
use Rattle.cert_check.proofs.texts.ReadChains.{chains-more, one-more, no-chains}
use Rattle.cert_check.proofs.text.lines.chains_of.Goals as goal

pub loop-text-preserved : goal.loop-text-preserved
loop-text-preserved c = record {
  texts = rw c.in_ok-push-in-Ok.ensures.items (
      chains-more c.loop-text.chains.items c.in-Ok.chain c.args.texts.now c.loop-text.text-index c.text-item.result (omega arith) c.text-item.is
      (c.in-Ok.ensures.exact.0 ∙ c.in_ok-text.ensures.value) c.loop-text.invariant.texts);
  each = rw c.in_ok-push-in-Ok.ensures.items (
      one-more c.loop-text.chains.items c.in-Ok.chain c.in_ok-text.text c.loop-text.invariant.each c.in-Ok.ensures.exact.0 c.in-Ok.ensures.exact.1);
}

pub returns-in-Err-Wrong : goal.returns-in-Err-Wrong
returns-in-Err-Wrong c = record {
  exact = λ chains each e.
      no-chains c.args.texts.now c.loop-text.text-index c.text-item.result (omega arith) c.text-item.is
      (subst NoChain c.in_ok-text.ensures.value (c.in-Err-Wrong.ensures.exact (λ same. absurd cc))) chains each e;
}

pub returns : goal.returns
returns c = record {
  exact = (c.loop-text.invariant.texts ∙ take_all c.loop-text.text-index c.args.texts.now (omega arith), c.loop-text.invariant.each);
}
