use Rattle.std.proofs.Common.{refl}
use Rattle.cert_check.specs.declared.text.wanted.LineKind.TheVariants as kind
use Rattle.cert_check.specs.text.Text.{changed_line}
use Rattle.cert_check.specs.text.Pieces.{IsSomeChange}
use Rattle.cert_check.proofs.texts.Plainest.{plain_change}
use Rattle.cert_check.specs.text.Pieces.{same}
use Rattle.cert_check.proofs.texts.Pieces.{line-none, line-itself, alone-begun}
use Rattle.cert_check.proofs.texts.Keyed.{changed-keyed}
use Rattle.cert_check.proofs.text.readers.read_changed.Goals as goal

pub returns-in_err-line : goal.returns-in_err-line
returns-in_err-line c = record {
  exact =
      line-none same changed_line IsSomeChange plain_change c.args.cursor.now c.line.new.self c.from_residual.result c.in_err-line.field-0.0 refl
      c.from_residual.ensures.1 c.in_err-line.ensures.none;
}

pub returns : goal.returns
returns c = record {
  exact =
      line-itself changed_line IsSomeChange plain_change kind.Changed c.args.cursor.now c.line.new.self c.in_ok-line.line.now c.changed_in.result c.read_as.result refl changed-keyed
      (alone-begun changed_line IsSomeChange plain_change kind.Changed refl refl changed-keyed)
      c.in_ok-line.ensures.next c.changed_in.ensures.exact c.read_as.ensures.exact;
}
