use Rattle.std.proofs.Common.{◌≡◌, ◌++◌, map, take}
use Rattle.cert_check.specs.text.Text.{spaced}
use Rattle.cert_check.specs.text.FactsText.{fact_word}
use Rattle.cert_check.proofs.text.fact_writing.push_known.Given as goal

abbrev pub invariant-loop-fact : goal.invariant-loop-fact
invariant-loop-fact g l = g.W.TextWriter.written l.out ≡ g.W.TextWriter.written l.initial.out ++ spaced (map fact_word (take l.fact-index l.facts))
