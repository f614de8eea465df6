use Rattle.std.proofs.Common.{take}
use Rattle.std.specs.List.{All}
use Rattle.cert_check.specs.text.HasText.{ChainHasText}
use Rattle.analyser.proofs.fact_texts.each_has_text.Given as goal

abbrev pub invariant-loop-chain : goal.invariant-loop-chain
invariant-loop-chain l = All ChainHasText (take l.chain-index l.chains)
