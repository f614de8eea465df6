use Rattle.std.proofs.Common.{arith}
use Rattle.cert_check.specs.text.HasText.{ChainHasText}
use Rattle.cert_check.proofs.texts.Limited.{all-more, all-end}
use Rattle.analyser.proofs.fact_texts.each_has_text.Goals as goal

pub loop-chain-preserved : goal.loop-chain-preserved
loop-chain-preserved c =
    all-more ChainHasText c.args.chains.now c.loop-chain.chain-index c.chain-item.result (omega arith) c.chain-item.is c.loop-chain.invariant
    c.chain_has_text.ensures.text

pub returns : goal.returns
returns c = record { texts = all-end ChainHasText c.args.chains.now c.loop-chain.chain-index (omega arith) c.loop-chain.invariant }
