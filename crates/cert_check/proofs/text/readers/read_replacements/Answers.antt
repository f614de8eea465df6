use Rattle.std.proofs.Common.{refl}
use Rattle.cert_check.specs.declared.text.wanted.LineKind.TheVariants as kind
use Rattle.cert_check.specs.text.Text.{replacements_line}
use Rattle.cert_check.specs.text.Pieces.{IsSomeReplacement}
use Rattle.cert_check.proofs.texts.Plainest.{plain_replacements}
use Rattle.cert_check.specs.text.Pieces.{same}
use Rattle.cert_check.proofs.texts.Pieces.{line-none, line-itself, alone-begun}
use Rattle.cert_check.proofs.texts.Keyed.{replacements-keyed}
use Rattle.cert_check.proofs.text.readers.read_replacements.Goals as goal

pub returns-in_err-line : goal.returns-in_err-line
returns-in_err-line c = record {
  exact =
      line-none same replacements_line IsSomeReplacement plain_replacements c.args.cursor.now c.line.new.self c.from_residual.result c.in_err-line.field-0.0 refl
      c.from_residual.ensures.1 c.in_err-line.ensures.none;
}

pub returns : goal.returns
returns c = record {
  exact =
      line-itself replacements_line IsSomeReplacement plain_replacements kind.Replacements c.args.cursor.now c.line.new.self c.in_ok-line.line.now c.replacements_in.result c.read_as.result refl replacements-keyed
      (alone-begun replacements_line IsSomeReplacement plain_replacements kind.Replacements refl refl replacements-keyed)
      c.in_ok-line.ensures.next c.replacements_in.ensures.exact c.read_as.ensures.exact;
}
