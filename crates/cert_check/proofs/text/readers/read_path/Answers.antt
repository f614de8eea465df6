use Rattle.std.proofs.Common.{None, refl}
use Rattle.ed_rules.specs.Formed.{ChoiceIsBytes}
use Rattle.cert_check.specs.declared.text.wanted.LineKind.TheVariants as kind
use Rattle.cert_check.specs.text.Text.{path_line}
use Rattle.cert_check.specs.text.Pieces.{same}
use Rattle.cert_check.proofs.texts.Pieces.{line-none, line-itself, alone-begun}
use Rattle.cert_check.proofs.texts.Keyed.{path-keyed}
use Rattle.cert_check.proofs.text.readers.read_path.Goals as goal

pub returns-in_err-line : goal.returns-in_err-line
returns-in_err-line c = record {
  exact =
      line-none same path_line ChoiceIsBytes None c.args.cursor.now c.line.new.self c.from_residual.result c.in_err-line.field-0.0 tt
      c.from_residual.ensures.1 c.in_err-line.ensures.none;
}

pub returns : goal.returns
returns c = record {
  exact =
      line-itself path_line ChoiceIsBytes None kind.Path c.args.cursor.now c.line.new.self c.in_ok-line.line.now c.in_ok-path_in.field-0 c.read_as.result tt path-keyed
      (alone-begun path_line ChoiceIsBytes None kind.Path tt refl path-keyed)
      c.in_ok-line.ensures.next c.in_ok-path_in.ensures.exact c.read_as.ensures.exact;
}
