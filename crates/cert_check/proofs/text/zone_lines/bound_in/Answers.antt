use Rattle.std.proofs.Common.{ℤ, arith, sym, subst, w64}
use Rattle.std.proofs.lemmas.Int.{to_z-of_z}
use Rattle.std.proofs.lemmas.List.Sums.{prefix_len-le-length}
use Rattle.cert_check.specs.text.Reading.{is_in_word, IsSaid}
use Rattle.cert_check.proofs.texts.ReadZone.{said-is, not-said-here}
use Rattle.cert_check.proofs.text.zone_lines.bound_in.Goals as goal

pub split_at-requires : goal.split_at-requires
split_at-requires c = omega (arith, prefix_len-le-length is_in_word c.in-Some.rest.now)

pub returns-in_default-signed_in : goal.returns-in_default-signed_in
returns-in_default-signed_in c = record {
  exact = λ number words hs e.
      c.in_default-signed_in.ensures.exact number hs
      (not-said-here c.args.x c.args.y c.name_byte.result c.name_byte-2.result number words c.args.text.now c.in-Some.rest.now c.split_at.result.0.now c.split_at.result.1.now
      c.word_len.result hs c.name_byte.ensures.value c.name_byte-2.ensures.value c.in-Some.ensures.cases c.word_len.ensures.value c.split_at.ensures.front
      c.split_at.ensures.back e);
}

pub returns : goal.returns
returns c = record {
  exact =
      let read = c.in-Some-signed_in.ensures.exact in
      subst (λ (z : ℤ). IsSaid c.args.x c.args.y z c.split_at.result.1.now c.args.text.now) (sym (to_z-of_z w64 c.in-Some-signed_in.number (record { sfits = read.1 })))
      (said-is c.args.x c.args.y c.name_byte.result c.name_byte-2.result c.in-Some-signed_in.number c.args.text.now c.in-Some.rest.now c.split_at.result.0.now
      c.split_at.result.1.now c.word_len.result c.requires.row c.requires.column read.1
      c.name_byte.ensures.value c.name_byte-2.ensures.value c.in-Some.ensures.cases c.word_len.ensures.value c.split_at.ensures.front c.split_at.ensures.back
      read.0);
}
