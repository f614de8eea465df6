use Rattle.std.proofs.Common.{arith}
use Rattle.cert_check.proofs.texts.Limited.{all-more, all-end}
use Rattle.analyser.specs.Walking.{StateIsBytes}
use Rattle.analyser.proofs.fact_texts.states_are_bytes.Goals as goal

pub loop-state-preserved : goal.loop-state-preserved
loop-state-preserved c =
    all-more StateIsBytes c.args.states.now c.loop-state.state-index c.state-item.result (omega arith) c.state-item.is c.loop-state.invariant
    c.state_is_bytes.ensures.bytes

pub returns : goal.returns
returns c = record { bytes = all-end StateIsBytes c.args.states.now c.loop-state.state-index (omega arith) c.loop-state.invariant }
