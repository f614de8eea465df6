use Rattle.std.proofs.Common.{◌≡◌, Ok, ◌∙◌, sym, ap}
use Rattle.std.specs.Prelude.{decimal}
use Rattle.std.proofs.lemmas.Bool.Decides.{Decides-eqb}
use Rattle.std.proofs.lemmas.Fmt.{parse-decimal}
use Rattle.std.proofs.lemmas.Slice.Eq.{slice_eq-Decides}
use Rattle.cert_check.proofs.texts.ReadWords.{not-utf8}
use Rattle.cert_check.proofs.text.words_in.number_in.Goals as goal

pub returns-in_default : goal.returns-in_default
returns-in_default c = record { exact = λ v h e. not-utf8 c.args.word.now v h c.in_default.ensures.cases.0 e }

pub returns-in_default-parse : goal.returns-in_default-parse
returns-in_default-parse c = record {
  exact = λ v h e.
      let read : c.parse.result ≡ Ok v = parse-decimal 64 v c.in-Ok.text.now c.parse.result h h (c.in-Ok.ensures.cases.0 ∙ sym e) c.parse.ensures.value.0 in
      absurd cc;
}

pub returns : goal.returns
returns c = record {
  exact = λ v h e.
      let read : c.parse.result ≡ Ok v = parse-decimal 64 v c.in-Ok.text.now c.parse.result h h (c.in-Ok.ensures.cases.0 ∙ sym e) c.parse.ensures.value.0 in
      let number : c.in-Ok-parse.number ≡ v = cc in
      let written : c.as_bytes.result.now ≡ c.args.word.now = c.as_bytes.ensures.value ∙ c.format.ensures.text ∙ ap decimal number ∙ e in
      let same = (slice_eq-Decides Decides-eqb c.as_bytes.result.now c.args.word.now c.eq.result c.eq.ensures).1 written in
      absurd cc;
}
