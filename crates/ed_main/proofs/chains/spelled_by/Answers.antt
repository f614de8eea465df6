-- One more text spells one more chain, or none, and then no file has the landmarks of such texts.
use Rattle.std.proofs.Common.{◌∙◌, subst, sym}
use Rattle.landmarks.specs.Spelled.{SpellsChain}
use Rattle.ed_main.proofs.ChainLemmas.{one_more_spelled, unread_seen}
use Rattle.ed_main.proofs.chains.spelled_by.Goals as goal

pub returns-in-Err-clause-only_if_refused : goal.returns-in-Err-clause-only_if_refused
returns-in-Err-clause-only_if_refused c = λ differs.
    unread_seen _ (λ text. text.now) c.args.texts.now c.loop-text.text-index _ c.in_ok-bytes.bytes c.loop-text-test.true
    (c.in_ok-bytes.ensures.value ∙ c.as_bytes.ensures.value) (c.in-Err.ensures.exact (λ is. differs (c.wrong_chain.ensures.memory is)))

pub loop-text-preserved : goal.loop-text-preserved
loop-text-preserved c =
    one_more_spelled _ (λ text. text.now) c.args.texts.now c.loop-text.text-index _ c.loop-text.chains.items c.push.new.self.items
    c.in-Ok.chain c.loop-text-test.true c.in_ok-push-in-Ok.ensures.items
    (c.in-Ok.ensures.exact.0 ∙ c.in_ok-bytes.ensures.value ∙ c.as_bytes.ensures.value)
    (subst (λ text. SpellsChain text c.in-Ok.chain.landmarks) (sym c.in-Ok.ensures.exact.0) c.in-Ok.ensures.exact.1) c.loop-text.invariant
