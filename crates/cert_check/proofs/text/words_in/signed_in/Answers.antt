use Rattle.std.proofs.Common.{◌≡◌, ℤ, Ok, ◌∙◌, sym, ap, w64, to_z, of_z}
use Rattle.std.specs.Fmt.{signed_decimal}
use Rattle.std.proofs.lemmas.Int.{to_z-of_z}
use Rattle.std.specs.Fmt.{signed_decimal}
use Rattle.std.proofs.lemmas.Bool.Decides.{Decides-eqb}
use Rattle.std.proofs.lemmas.Fmt.{parse-signed_decimal}
use Rattle.std.proofs.lemmas.Slice.Eq.{slice_eq-Decides}
use Rattle.cert_check.proofs.texts.ReadWords.{signed-not-utf8}
use Rattle.cert_check.proofs.text.words_in.signed_in.Goals as goal

pub returns-in_default : goal.returns-in_default
returns-in_default c = record { exact = λ v h e. signed-not-utf8 c.args.word.now v h c.in_default.ensures.cases.0 e }

pub returns-in_default-parse : goal.returns-in_default-parse
returns-in_default-parse c = record {
  exact = λ v h e.
      let read : c.parse.result ≡ Ok v = parse-signed_decimal w64 v c.in-Ok.text.now c.parse.result (record { sfits = h }) h (c.in-Ok.ensures.cases.0 ∙ sym e) c.parse.ensures.value.0 in
      absurd cc;
}

pub returns : goal.returns
returns c = record {
  exact = λ v h e.
      let read : c.parse.result ≡ Ok v = parse-signed_decimal w64 v c.in-Ok.text.now c.parse.result (record { sfits = h }) h (c.in-Ok.ensures.cases.0 ∙ sym e) c.parse.ensures.value.0 in
      let number : c.in-Ok-parse.number ≡ v = cc in
      let written : c.as_bytes.result.now ≡ c.args.word.now = c.as_bytes.ensures.value ∙ c.format.ensures.text ∙ ap (λ (z : ℤ). signed_decimal (to_z w64 (of_z w64 z))) number
      ∙ ap signed_decimal (to_z-of_z w64 v (record { sfits = h })) ∙ e in
      let same = (slice_eq-Decides Decides-eqb c.as_bytes.result.now c.args.word.now c.eq.result c.eq.ensures).1 written in
      absurd cc;
}
