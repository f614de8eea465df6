use Rattle.std.proofs.Common.{None, refl}
use Rattle.std.specs.Prelude.{codes}
use Rattle.cert_check.specs.declared.text.wanted.LineKind.TheVariants as kind
use Rattle.cert_check.specs.text.Pieces.{limits_line, AreLimits}
use Rattle.cert_check.specs.text.Pieces.{same}
use Rattle.cert_check.proofs.texts.Pieces.{line-none, line-itself, alone-begun}
use Rattle.cert_check.proofs.texts.Keyed.{final-keyed}
use Rattle.cert_check.proofs.text.readers.read_final.Goals as goal

pub returns-in_err-line : goal.returns-in_err-line
returns-in_err-line c = record {
  exact =
      line-none same (limits_line (codes "final")) AreLimits (0, None) c.args.cursor.now c.line.new.self c.from_residual.result c.in_err-line.field-0.0 refl
      c.from_residual.ensures.1 c.in_err-line.ensures.none;
}

pub returns : goal.returns
returns c = record {
  exact =
      line-itself (limits_line (codes "final")) AreLimits (0, None) kind.Final c.args.cursor.now c.line.new.self c.in_ok-line.line.now c.final_in.result c.read_as.result refl final-keyed
      (alone-begun (limits_line (codes "final")) AreLimits (0, None) kind.Final refl refl final-keyed)
      c.in_ok-line.ensures.next c.final_in.ensures.exact c.read_as.ensures.exact;
}
