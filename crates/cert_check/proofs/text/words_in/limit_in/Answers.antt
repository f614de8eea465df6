use Rattle.std.proofs.Common.{◌∙◌, sym}
use Rattle.std.proofs.lemmas.Bool.{lt-leb}
use Rattle.std.proofs.lemmas.Bool.Decides.{Decides-eqb}
use Rattle.std.proofs.lemmas.Slice.Eq.{slice_eq-Decides}
use Rattle.cert_check.proofs.texts.ReadLines.{limit-unread}
use Rattle.cert_check.proofs.text.words_in.limit_in.Goals as goal

pub returns-then-number-gt-MOST : goal.returns-then-number-gt-MOST
returns-then-number-gt-MOST c = record {
  exact = λ v h e.
      limit-unread c.args.word.now c.in-Some.number
      (λ any. let same = (slice_eq-Decides Decides-eqb c.args.word.now c.as_slice.result.now c.eq.result c.eq.ensures).1 (sym any ∙ sym c.as_slice.ensures) in absurd cc)
      c.in-Some.ensures.exact.0 c.in-Some.ensures.exact.1 (lt-leb c.in-Some.number 1000000000000 c.if-number-gt-MOST.true) v h e;
}
