use Rattle.std.proofs.Common.{[], refl}
use Rattle.std.specs.Prelude.{All}
use Rattle.std.proofs.lemmas.List.Elements.{All-nil}
use Rattle.cert_check.specs.declared.text.wanted.LineKind.TheVariants as kind
use Rattle.cert_check.specs.text.HasText.{ChainHasText}
use Rattle.cert_check.specs.text.Text.{chains_line}
use Rattle.cert_check.proofs.texts.Pieces.{line-none, line-exact, alone-begun}
use Rattle.cert_check.proofs.texts.Keyed.{at-keyed}
use Rattle.cert_check.proofs.text.readers.read_at.Goals as goal

pub returns-in_err-line : goal.returns-in_err-line
returns-in_err-line c = record {
  exact =
      line-none (λ v. v.items) chains_line (All ChainHasText) [] c.args.cursor.now c.line.new.self c.from_residual.result c.in_err-line.field-0.0
      (All-nil ChainHasText) c.from_residual.ensures.1 c.in_err-line.ensures.none;
}

pub returns : goal.returns
returns c = record {
  exact =
      line-exact (λ v. v.items) chains_line (All ChainHasText) [] kind.At c.args.cursor.now c.line.new.self c.in_ok-line.line.now c.in_ok-chains_in.field-0 c.read_as.result
      (All-nil ChainHasText) at-keyed
      (alone-begun chains_line (All ChainHasText) [] kind.At (All-nil ChainHasText) refl at-keyed)
      c.in_ok-line.ensures.next c.in_ok-chains_in.ensures.exact c.read_as.ensures.exact;
}
