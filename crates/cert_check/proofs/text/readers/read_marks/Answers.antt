use Rattle.std.proofs.Common.{ℕ, List, subst}
use Rattle.ed_rules.specs.Formed.{ZoneIsFormed}
use Rattle.cert_check.specs.text.Text.{marks_line}
use Rattle.cert_check.specs.text.Reading.{ReadsAs, all_marks}
use Rattle.cert_check.specs.text.Wanted.{key}
use Rattle.cert_check.specs.text.Pieces.{same}
use Rattle.cert_check.proofs.texts.Pieces.{line-none, line-itself, alone-begun}
use Rattle.cert_check.proofs.texts.Keyed.{marks-keyed}
use Rattle.cert_check.proofs.text.readers.read_marks.Goals as goal

pub returns-in_err-line : goal.returns-in_err-line
returns-in_err-line c = record {
  exact =
      line-none same (marks_line (key c.args.kind)) (λ marks. ZoneIsFormed marks c.args.zone.now) all_marks c.args.cursor.now c.line.new.self c.from_residual.result c.in_err-line.field-0.0 c.requires.formed
      c.from_residual.ensures.1 c.in_err-line.ensures.none;
}

pub returns : goal.returns
returns c = record {
  exact =
      line-itself (marks_line (key c.args.kind)) (λ marks. ZoneIsFormed marks c.args.zone.now) all_marks c.args.kind c.args.cursor.now c.line.new.self c.in_ok-line.line.now c.marks_in.result c.read_as.result c.requires.formed (marks-keyed c.args.kind)
      (alone-begun (marks_line (key c.args.kind)) (λ marks. ZoneIsFormed marks c.args.zone.now) all_marks c.args.kind c.requires.formed c.requires.alone (marks-keyed c.args.kind))
      c.in_ok-line.ensures.next (subst (λ (k : List ℕ). ReadsAs (marks_line k) (λ marks. ZoneIsFormed marks c.args.zone.now) c.in_ok-line.line.now c.marks_in.result) c.key.ensures.value c.marks_in.ensures.exact) c.read_as.ensures.exact;
}
