use Rattle.std.proofs.Common.{[], ℕ, List, subst}
use Rattle.ed_rules.specs.Formed.{TextsAreFormed}
use Rattle.cert_check.specs.text.Text.{texts_line}
use Rattle.cert_check.specs.text.Reading.{ReadsAs}
use Rattle.cert_check.specs.text.Wanted.{key}
use Rattle.cert_check.proofs.texts.Certified.{no-paths}
use Rattle.cert_check.specs.text.Pieces.{same}
use Rattle.cert_check.proofs.texts.Pieces.{line-none, line-itself, alone-begun}
use Rattle.cert_check.proofs.texts.Keyed.{texts-keyed}
use Rattle.cert_check.proofs.text.readers.read_set.Goals as goal

pub returns-in_err-line : goal.returns-in_err-line
returns-in_err-line c = record {
  exact =
      line-none same (texts_line (key c.args.kind)) TextsAreFormed [] c.args.cursor.now c.line.new.self c.from_residual.result c.in_err-line.field-0.0 no-paths
      c.from_residual.ensures.1 c.in_err-line.ensures.none;
}

pub returns : goal.returns
returns c = record {
  exact =
      line-itself (texts_line (key c.args.kind)) TextsAreFormed [] c.args.kind c.args.cursor.now c.line.new.self c.in_ok-line.line.now c.in_ok-set_in.field-0 c.read_as.result no-paths (texts-keyed c.args.kind)
      (alone-begun (texts_line (key c.args.kind)) TextsAreFormed [] c.args.kind no-paths c.requires.alone (texts-keyed c.args.kind))
      c.in_ok-line.ensures.next (subst (λ (k : List ℕ). ReadsAs (texts_line k) TextsAreFormed c.in_ok-line.line.now c.in_ok-set_in.field-0) c.key.ensures.value c.in_ok-set_in.ensures.exact) c.read_as.ensures.exact;
}
