use Rattle.std.proofs.Common.{arith}
use Rattle.cert_check.specs.text.HasText.{StateHasText}
use Rattle.cert_check.proofs.texts.Limited.{all-more, all-end, all-fails}
use Rattle.cert_check.proofs.text.has_text.inner_have_text.Goals as goal

pub loop-state-preserved : goal.loop-state-preserved
loop-state-preserved c =
    all-more (StateHasText c.args.version) c.args.states.now c.loop-state.state-index c.state-item.result (omega arith) c.state-item.is c.loop-state.invariant (c.state_has_text.ensures.exact.0 c.if-not-state_has_text.false)

pub returns-then-not-state_has_text : goal.returns-then-not-state_has_text
returns-then-not-state_has_text c = record {
  exact = (
    λ t. absurd cc,
    λ all. absurd (all-fails (StateHasText c.args.version) c.args.states.now c.loop-state.state-index c.state-item.result (omega arith) c.state-item.is
        (λ h. let yes = c.state_has_text.ensures.exact.1 h in let is = c.if-not-state_has_text.true in absurd cc) all),
  );
}

pub returns : goal.returns
returns c = record { exact = (λ _. all-end (StateHasText c.args.version) c.args.states.now c.loop-state.state-index (omega arith) c.loop-state.invariant, λ _. cc) }
