use Rattle.cert_check.proofs.texts.ReadWords.{no-more-bytes, some-left}
use Rattle.cert_check.proofs.text.words_in.text_in.Goals as goal

pub returns-then-not-is_empty : goal.returns-then-not-is_empty
returns-then-not-is_empty c = record {
  exact = λ v h e.
      no-more-bytes c.loop-byte.text v c.loop-byte.left.now c.args.word.now c.loop-byte.invariant c.in_default.ensures.exact
      (some-left c.loop-byte.left.now c.if-not-is_empty.ensures) h e;
}
