use Rattle.std.proofs.Common.{ℕ, List, true, subst}
use Rattle.cert_check.specs.text.Pieces.{either_line}
use Rattle.cert_check.specs.text.Reading.{ReadsAs}
use Rattle.cert_check.specs.text.Wanted.{key}
use Rattle.cert_check.specs.text.Pieces.{same}
use Rattle.cert_check.proofs.texts.Pieces.{line-none, line-itself}
use Rattle.cert_check.proofs.texts.Keyed.{either-keyed, either-begun}
use Rattle.cert_check.proofs.text.readers.read_either.Goals as goal

pub returns-in_err-line : goal.returns-in_err-line
returns-in_err-line c = record {
  exact =
      line-none same (either_line (key c.args.kind) c.args.other.now) (λ _. Unit {0}) true c.args.cursor.now c.line.new.self c.from_residual.result c.in_err-line.field-0.0 tt
      c.from_residual.ensures.1 c.in_err-line.ensures.none;
}

pub returns : goal.returns
returns c = record {
  exact =
      line-itself (either_line (key c.args.kind) c.args.other.now) (λ _. Unit {0}) true c.args.kind c.args.cursor.now c.line.new.self c.in_ok-line.line.now c.either_in.result c.read_as.result tt (either-keyed c.args.kind c.args.other.now c.requires.other)
      (either-begun c.args.kind c.args.other.now c.requires.other)
      c.in_ok-line.ensures.next (subst (λ (k : List ℕ). ReadsAs (either_line k c.args.other.now) (λ _. Unit {0}) c.in_ok-line.line.now c.either_in.result) c.key.ensures.value c.either_in.ensures.exact) c.read_as.ensures.exact;
}
