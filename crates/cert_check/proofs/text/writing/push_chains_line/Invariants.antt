use Rattle.std.proofs.Common.{◌≡◌, ◌++◌, map, take, Some}
use Rattle.cert_check.specs.text.Text.{spaced, choice_word}
use Rattle.cert_check.proofs.text.writing.push_chains_line.Given as goal

abbrev pub invariant-loop-chain : goal.invariant-loop-chain
invariant-loop-chain g l =
    g.W.TextWriter.written l.out ≡
    g.W.TextWriter.written l.initial.out ++ spaced (map choice_word (map Some (map (λ chain. chain.text) (take l.chain-index l.chains))))
