use Rattle.std.proofs.Common.{refl}
use Rattle.cert_check.specs.declared.text.wanted.LineKind.TheVariants as kind
use Rattle.cert_check.specs.text.Pieces.{found_line, IsFound}
use Rattle.cert_check.proofs.texts.Plainest.{plain_found}
use Rattle.cert_check.specs.text.Pieces.{same}
use Rattle.cert_check.proofs.texts.Pieces.{line-none, line-itself, alone-begun}
use Rattle.cert_check.proofs.texts.Keyed.{found-keyed}
use Rattle.cert_check.proofs.text.readers.read_found.Goals as goal

pub returns-in_err-line : goal.returns-in_err-line
returns-in_err-line c = record {
  exact =
      line-none same found_line IsFound plain_found c.args.cursor.now c.line.new.self c.from_residual.result c.in_err-line.field-0.0 refl
      c.from_residual.ensures.1 c.in_err-line.ensures.none;
}

pub returns : goal.returns
returns c = record {
  exact =
      line-itself found_line IsFound plain_found kind.Undo c.args.cursor.now c.line.new.self c.in_ok-line.line.now c.undo_in.result c.read_as.result refl found-keyed
      (alone-begun found_line IsFound plain_found kind.Undo refl refl found-keyed)
      c.in_ok-line.ensures.next c.undo_in.ensures.exact c.read_as.ensures.exact;
}
