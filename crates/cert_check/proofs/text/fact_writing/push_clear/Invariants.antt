use Rattle.std.proofs.Common.{◌≡◌, ◌++◌, map, take}
use Rattle.cert_check.specs.text.Text.{spaced}
use Rattle.cert_check.specs.text.FactsText.{stretch_word}
use Rattle.cert_check.proofs.text.fact_writing.push_clear.Given as goal

abbrev pub invariant-loop-stretch : goal.invariant-loop-stretch
invariant-loop-stretch g l = g.W.TextWriter.written l.out ≡ g.W.TextWriter.written l.initial.out ++ spaced (map stretch_word (take l.stretch-index l.stretches))
