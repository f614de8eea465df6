use Rattle.std.proofs.Common.{[]}
use Rattle.cert_check.specs.text.Pieces.{same}
use Rattle.cert_check.specs.text.Wanted.{key}
use Rattle.cert_check.proofs.texts.Pieces.{took-more}
use Rattle.cert_check.proofs.texts.Plainest.{nothing-formed}
use Rattle.cert_check.proofs.texts.Sequence.{stops, stops-last}
use Rattle.cert_check.proofs.texts.Stated.{both-begun, lines-read}
use Rattle.cert_check.proofs.text.fact_lines.read_both.Goals as goal

pub returns-in_err-lines : goal.returns-in_err-lines
returns-in_err-lines c = record {
  exact =
      stops _ _ _ _ same c.read_known.new.cursor c.from_residual.result c.in_err-lines.field-0.0 c.from_residual.ensures.1
      (both-begun (key c.args.lines_kind) (key c.args.clear_kind) c.args.marks.now c.args.cursor.now) [] (nothing-formed c.args.marks.now).clear
      c.in_err-lines.ensures.exact;
}

pub returns-in_err-clear : goal.returns-in_err-clear
returns-in_err-clear c = record {
  exact =
      stops-last same c.read_clear.new.cursor c.from_residual-in_err-clear.result c.in_err-clear.field-0.0 c.from_residual-in_err-clear.ensures.1
      (lines-read (key c.args.lines_kind) (key c.args.clear_kind) c.args.marks.now c.in_ok-lines.lines.items c.in_ok-lines.ensures.exact)
      c.in_err-clear.ensures.exact;
}

pub returns : goal.returns
returns c = record {
  exact = (
    record { known = c.in_ok-lines.ensures.exact.0; clear = c.in_ok-clear.ensures.exact.0 },
    took-more c.in_ok-lines.ensures.exact.1 c.in_ok-clear.ensures.exact.1,
  );
}
