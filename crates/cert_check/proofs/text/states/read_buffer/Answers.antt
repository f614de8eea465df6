use Rattle.cert_check.specs.text.Pieces.{buffer_value, keys_of}
use Rattle.ed_rules.specs.facts.Facts.{no_facts}
use Rattle.cert_check.proofs.texts.Pieces.{took-none, exits}
use Rattle.cert_check.proofs.texts.Plainest.{plain-told}
use Rattle.cert_check.proofs.texts.Sequence.{stops, stops-last}
use Rattle.cert_check.proofs.texts.Stated.{buffer-zone, buffer-marks, marks-read, known-read, buffer-taken}
use Rattle.cert_check.proofs.text.states.read_buffer.Goals as goal

pub returns-in_err-zone : goal.returns-in_err-zone
returns-in_err-zone c = record {
  exact =
      exits buffer_value c.read_zone.new.cursor c.from_residual.result c.in_err-zone.field-0.0 c.from_residual.ensures.1
      (buffer-zone c.args.version (keys_of c.args.kinds)) (took-none c.args.cursor.now) c.in_err-zone.ensures.exact;
}

pub returns-in_err-marks : goal.returns-in_err-marks
returns-in_err-marks c = record {
  exact =
      exits buffer_value c.read_marks.new.cursor c.from_residual-in_err-marks.result c.in_err-marks.field-0.0 c.from_residual-in_err-marks.ensures.1
      (buffer-marks c.args.version (keys_of c.args.kinds) c.in_ok-zone.zone c.in_ok-zone.ensures.exact.0) c.in_ok-zone.ensures.exact.1 c.in_err-marks.ensures.exact;
}

pub returns-in_err-has : goal.returns-in_err-has
returns-in_err-has c = record {
  exact =
      stops _ _ _ _ buffer_value c.read_matched.new.cursor c.from_residual-in_err-has.result c.in_err-has.field-0.0 c.from_residual-in_err-has.ensures.1
      (marks-read c.args.version (keys_of c.args.kinds) c.in_ok-zone.zone c.in_ok-marks.marks c.in_ok-zone.ensures.exact c.in_ok-marks.ensures.exact)
      no_facts (plain-told c.args.version c.in_ok-marks.marks) c.in_err-has.ensures.exact;
}

pub returns-in_err-facts : goal.returns-in_err-facts
returns-in_err-facts c = record {
  exact =
      stops-last buffer_value c.read_facts.new.cursor c.from_residual-in_err-facts.result c.in_err-facts.field-0.0 c.from_residual-in_err-facts.ensures.1
      (known-read c.args.version (keys_of c.args.kinds) c.in_ok-marks.marks
      (marks-read c.args.version (keys_of c.args.kinds) c.in_ok-zone.zone c.in_ok-marks.marks c.in_ok-zone.ensures.exact c.in_ok-marks.ensures.exact)
      c.in_ok-has.has c.in_ok-has.ensures.exact) c.in_err-facts.ensures.exact;
}

pub returns : goal.returns
returns c = record {
  exact = (
    (c.in_ok-marks.ensures.exact.0, (c.in_ok-has.ensures.exact.0, c.in_ok-facts.ensures.exact.0)),
    buffer-taken c.args.version (keys_of c.args.kinds) (record { zone = c.in_ok-zone.zone; marks = c.in_ok-marks.marks; facts = c.in_ok-facts.facts }, c.in_ok-has.has)
        c.in_ok-zone.ensures.exact.1 c.in_ok-marks.ensures.exact.1 c.in_ok-has.ensures.exact.1 c.in_ok-facts.ensures.exact.1,
  );
}
