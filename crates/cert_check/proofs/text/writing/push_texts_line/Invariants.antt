use Rattle.std.proofs.Common.{◌≡◌, ◌++◌, map, take, Some}
use Rattle.cert_check.specs.text.Text.{spaced, choice_word}
use Rattle.cert_check.proofs.text.writing.push_texts_line.Given as goal

abbrev pub invariant-loop-text : goal.invariant-loop-text
invariant-loop-text g l = g.W.TextWriter.written l.out ≡ g.W.TextWriter.written l.initial.out ++ spaced (map choice_word (map Some (take l.text-index l.texts)))
