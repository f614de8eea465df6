use Rattle.std.proofs.Common.{ℕ, List, subst}
use Rattle.ed_rules.specs.Formed.{SetIsFormed}
use Rattle.cert_check.specs.text.Text.{choices_line}
use Rattle.cert_check.specs.text.Reading.{ReadsAs}
use Rattle.cert_check.specs.text.Wanted.{key}
use Rattle.cert_check.proofs.texts.Plainest.{plain_set, plain-set}
use Rattle.cert_check.specs.text.Pieces.{same}
use Rattle.cert_check.proofs.texts.Pieces.{line-none, line-itself, alone-begun}
use Rattle.cert_check.proofs.texts.Keyed.{choices-keyed}
use Rattle.cert_check.proofs.text.readers.read_choices.Goals as goal

pub returns-in_err-line : goal.returns-in_err-line
returns-in_err-line c = record {
  exact =
      line-none same (choices_line (key c.args.kind)) SetIsFormed plain_set c.args.cursor.now c.line.new.self c.from_residual.result c.in_err-line.field-0.0 plain-set
      c.from_residual.ensures.1 c.in_err-line.ensures.none;
}

pub returns : goal.returns
returns c = record {
  exact =
      line-itself (choices_line (key c.args.kind)) SetIsFormed plain_set c.args.kind c.args.cursor.now c.line.new.self c.in_ok-line.line.now c.in_ok-choices_in.field-0 c.read_as.result plain-set (choices-keyed c.args.kind)
      (alone-begun (choices_line (key c.args.kind)) SetIsFormed plain_set c.args.kind plain-set c.requires.alone (choices-keyed c.args.kind))
      c.in_ok-line.ensures.next (subst (λ (k : List ℕ). ReadsAs (choices_line k) SetIsFormed c.in_ok-line.line.now c.in_ok-choices_in.field-0) c.key.ensures.value c.in_ok-choices_in.ensures.exact) c.read_as.ensures.exact;
}
