use Rattle.std.proofs.Common.{[], refl}
use Rattle.std.specs.Prelude.{codes}
use Rattle.ed_rules.specs.Formed.{TextsAreFormed}
use Rattle.cert_check.specs.declared.text.wanted.LineKind.TheVariants as kind
use Rattle.cert_check.specs.text.Text.{texts_line}
use Rattle.cert_check.proofs.texts.Pieces.{line-none, line-exact, alone-begun}
use Rattle.cert_check.proofs.texts.Keyed.{texts-keyed}
use Rattle.cert_check.proofs.texts.Certified.{no-paths}
use Rattle.cert_check.proofs.text.readers.read_writes.Goals as goal

pub returns-in_err-line : goal.returns-in_err-line
returns-in_err-line c = record {
  exact =
      line-none (λ v. v.items) (texts_line (codes "writes")) TextsAreFormed [] c.args.cursor.now c.line.new.self c.from_residual.result c.in_err-line.field-0.0 no-paths
      c.from_residual.ensures.1 c.in_err-line.ensures.none;
}

pub returns : goal.returns
returns c = record {
  exact =
      line-exact (λ v. v.items) (texts_line (codes "writes")) TextsAreFormed [] kind.Writes c.args.cursor.now c.line.new.self c.in_ok-line.line.now c.in_ok-writes_in.field-0 c.read_as.result no-paths (texts-keyed kind.Writes)
      (alone-begun (texts_line (codes "writes")) TextsAreFormed [] kind.Writes no-paths refl (texts-keyed kind.Writes))
      c.in_ok-line.ensures.next c.in_ok-writes_in.ensures.exact c.read_as.ensures.exact;
}
