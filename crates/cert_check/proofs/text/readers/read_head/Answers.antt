use Rattle.cert_check.specs.declared.text.wanted.LineKind.TheVariants as kind
use Rattle.cert_check.specs.declared.text.cursor.Head.TheVariants.{End}
use Rattle.cert_check.specs.text.Pieces.{head_line}
use Rattle.cert_check.specs.text.Pieces.{same}
use Rattle.cert_check.proofs.texts.Pieces.{line-none, line-itself}
use Rattle.cert_check.proofs.texts.Keyed.{head-keyed, head-begun}
use Rattle.cert_check.proofs.text.readers.read_head.Goals as goal

pub returns-in_err-line : goal.returns-in_err-line
returns-in_err-line c = record {
  exact =
      line-none same head_line (λ _. Unit {0}) End c.args.cursor.now c.line.new.self c.from_residual.result c.in_err-line.field-0.0 tt
      c.from_residual.ensures.1 c.in_err-line.ensures.none;
}

pub returns : goal.returns
returns c = record {
  exact =
      line-itself head_line (λ _. Unit {0}) End kind.NoteLoopOrEnd c.args.cursor.now c.line.new.self c.in_ok-line.line.now c.head_in.result c.read_as.result tt head-keyed
      head-begun
      c.in_ok-line.ensures.next c.head_in.ensures.exact c.read_as.ensures.exact;
}
