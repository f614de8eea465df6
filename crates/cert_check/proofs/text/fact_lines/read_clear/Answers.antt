use Rattle.std.proofs.Common.{[], ℕ, List, subst}
use Rattle.std.specs.Prelude.{option_map}
use Rattle.cert_check.specs.text.FactsText.{clear_line, ClearAreFormed}
use Rattle.cert_check.specs.text.Reading.{ReadsAs}
use Rattle.cert_check.specs.text.Wanted.{key}
use Rattle.cert_check.proofs.texts.Pieces.{line-none, line-exact, alone-begun, as-read}
use Rattle.cert_check.proofs.texts.Keyed.{clear-keyed}
use Rattle.cert_check.proofs.texts.Plainest.{nothing-formed}
use Rattle.cert_check.proofs.text.fact_lines.read_clear.Goals as goal

pub returns-in_err-line : goal.returns-in_err-line
returns-in_err-line c = record {
  exact =
      line-none (λ v. v.items) (clear_line (key c.args.kind)) (ClearAreFormed c.args.marks.now) [] c.args.cursor.now c.line.new.self c.from_residual.result
      c.in_err-line.field-0.0 (nothing-formed c.args.marks.now).clear c.from_residual.ensures.1 c.in_err-line.ensures.none;
}

pub returns : goal.returns
returns c = record {
  exact =
      line-exact (λ v. v.items) (clear_line (key c.args.kind)) (ClearAreFormed c.args.marks.now) [] c.args.kind c.args.cursor.now c.line.new.self
      c.in_ok-line.line.now c.in_ok-clear_in.field-0 c.read_as.result (nothing-formed c.args.marks.now).clear (clear-keyed c.args.kind)
      (alone-begun (clear_line (key c.args.kind)) (ClearAreFormed c.args.marks.now) [] c.args.kind (nothing-formed c.args.marks.now).clear c.requires.alone
      (clear-keyed c.args.kind))
      c.in_ok-line.ensures.next
      (subst (λ (k : List ℕ). ReadsAs (clear_line k) (ClearAreFormed c.args.marks.now) c.in_ok-line.line.now (option_map (λ v. v.items) c.in_ok-clear_in.field-0))
      c.key.ensures.value
      (as-read (λ v. v.items) (clear_line c.key.result.now) (ClearAreFormed c.args.marks.now) c.in_ok-line.line.now c.in_ok-clear_in.field-0 c.in_ok-clear_in.ensures.exact)) c.read_as.ensures.exact;
}
