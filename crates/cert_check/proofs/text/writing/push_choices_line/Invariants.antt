use Rattle.std.proofs.Common.{◌≡◌, ◌++◌, map, take}
use Rattle.cert_check.specs.text.Text.{spaced, choice_word}
use Rattle.cert_check.proofs.text.writing.push_choices_line.Given as goal

abbrev pub invariant-loop-choice : goal.invariant-loop-choice
invariant-loop-choice g l = g.W.TextWriter.written l.out ≡ g.W.TextWriter.written l.initial.out ++ spaced (map choice_word (take l.choice-index l.choice-items))
