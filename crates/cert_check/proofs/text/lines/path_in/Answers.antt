use Rattle.std.proofs.Common.{[]}
use Rattle.std.specs.Prelude.{codes}
use Rattle.cert_check.specs.text.Text.{choice_word}
use Rattle.cert_check.proofs.texts.Chosen.{choice-above}
use Rattle.cert_check.proofs.texts.ReadWords.{not-nothing}
use Rattle.cert_check.proofs.texts.ReadLines.{one-word}
use Rattle.cert_check.proofs.text.lines.path_in.Goals as goal

pub returns-then-not-is_empty : goal.returns-then-not-is_empty
returns-then-not-is_empty c = record {
  exact = λ v h e.
      let word = one-word (codes "path") c.args.line.now c.in-Some.left.now c.in-Some-next_word.word.now c.in-Some-next_word.left.now (choice_word v) []
      c.in-Some.ensures.cases c.in-Some-next_word.ensures.cases (choice-above v) tt e in
      not-nothing c.in-Some-next_word.left.now c.if-not-is_empty.ensures word.1;
}
