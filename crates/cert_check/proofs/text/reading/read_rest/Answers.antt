use Rattle.std.proofs.Common.{map, []}
use Rattle.cert_check.specs.Certificates.{note_value, certificate_value}
use Rattle.cert_check.proofs.texts.Sequence.{stops, stops-last}
use Rattle.cert_check.proofs.texts.Certified.{certificate-formed, rest-taken, rest-begun, path-read, start-read, has-read, chains-read, notes-read, last-read, final-read, no-paths, plain_from_final, plain-from_final, plain_from_last, plain-from_last, plain_from_notes, plain-from_notes, plain_from_chains, plain-from_chains, plain_from_has, plain-from_has, plain_from_start, plain-from_start}
use Rattle.cert_check.proofs.text.reading.read_rest.Goals as goal

pub returns-in_err-path : goal.returns-in_err-path
returns-in_err-path c = record {
  exact =
      stops _ _ _ _ certificate_value c.read_path.new.cursor c.from_residual.result c.in_err-path.field-0.0 c.from_residual.ensures.1
      (rest-begun c.args.version c.args.cursor.now) (plain_from_start c.args.version) (plain-from_start c.args.version) c.in_err-path.ensures.exact;
}

pub returns-in_err-min : goal.returns-in_err-min
returns-in_err-min c = record {
  exact =
      stops _ _ _ _ certificate_value c.read_start.new.cursor c.from_residual-in_err-min.result c.in_err-min.field-0.0 c.from_residual-in_err-min.ensures.1
      (path-read c.args.version c.in_ok-path.path c.in_ok-path.ensures.exact) (plain_from_has c.args.version) (plain-from_has c.args.version) c.in_err-min.ensures.exact;
}

pub returns-in_err-has : goal.returns-in_err-has
returns-in_err-has c = record {
  exact =
      stops _ _ _ _ certificate_value c.read_matched.new.cursor c.from_residual-in_err-has.result c.in_err-has.field-0.0 c.from_residual-in_err-has.ensures.1
      (start-read c.args.version (path-read c.args.version c.in_ok-path.path c.in_ok-path.ensures.exact) (c.in_ok-min.min, c.in_ok-min.max) c.in_ok-min.ensures.exact) (plain_from_chains c.args.version) (plain-from_chains c.args.version) c.in_err-has.ensures.exact;
}

pub returns-in_err-landmarks : goal.returns-in_err-landmarks
returns-in_err-landmarks c = record {
  exact =
      stops _ _ _ _ certificate_value c.read_chains.new.cursor c.from_residual-in_err-landmarks.result c.in_err-landmarks.field-0.0 c.from_residual-in_err-landmarks.ensures.1
      (has-read c.args.version (start-read c.args.version (path-read c.args.version c.in_ok-path.path c.in_ok-path.ensures.exact) (c.in_ok-min.min, c.in_ok-min.max) c.in_ok-min.ensures.exact) c.in_ok-has.has c.in_ok-has.ensures.exact) (plain_from_notes c.args.version) (plain-from_notes c.args.version) c.in_err-landmarks.ensures.exact;
}

pub returns-in_err-notes : goal.returns-in_err-notes
returns-in_err-notes c = record {
  exact =
      stops _ _ _ _ certificate_value c.read_notes.new.cursor c.from_residual-in_err-notes.result c.in_err-notes.field-0.0 c.from_residual-in_err-notes.ensures.1
      (chains-read c.args.version (has-read c.args.version (start-read c.args.version (path-read c.args.version c.in_ok-path.path c.in_ok-path.ensures.exact) (c.in_ok-min.min, c.in_ok-min.max) c.in_ok-min.ensures.exact) c.in_ok-has.has c.in_ok-has.ensures.exact) c.in_ok-landmarks.landmarks.items c.in_ok-landmarks.ensures.exact) (plain_from_last c.args.version) (plain-from_last c.args.version) c.in_err-notes.ensures.exact;
}

pub returns-in_err-last : goal.returns-in_err-last
returns-in_err-last c = record {
  exact =
      stops _ _ _ _ certificate_value c.read_state.new.cursor c.from_residual-in_err-last.result c.in_err-last.field-0.0 c.from_residual-in_err-last.ensures.1
      (notes-read c.args.version (chains-read c.args.version (has-read c.args.version (start-read c.args.version (path-read c.args.version c.in_ok-path.path c.in_ok-path.ensures.exact) (c.in_ok-min.min, c.in_ok-min.max) c.in_ok-min.ensures.exact) c.in_ok-has.has c.in_ok-has.ensures.exact) c.in_ok-landmarks.landmarks.items c.in_ok-landmarks.ensures.exact) (map note_value c.in_ok-notes.notes.items) c.in_ok-notes.ensures.exact) plain_from_final (plain-from_final c.args.version) c.in_err-last.ensures.exact;
}

pub returns-in_err-low : goal.returns-in_err-low
returns-in_err-low c = record {
  exact =
      stops _ _ _ _ certificate_value c.read_final.new.cursor c.from_residual-in_err-low.result c.in_err-low.field-0.0 c.from_residual-in_err-low.ensures.1
      (last-read c.args.version (notes-read c.args.version (chains-read c.args.version (has-read c.args.version (start-read c.args.version (path-read c.args.version c.in_ok-path.path c.in_ok-path.ensures.exact) (c.in_ok-min.min, c.in_ok-min.max) c.in_ok-min.ensures.exact) c.in_ok-has.has c.in_ok-has.ensures.exact) c.in_ok-landmarks.landmarks.items c.in_ok-landmarks.ensures.exact) (map note_value c.in_ok-notes.notes.items) c.in_ok-notes.ensures.exact) c.in_ok-last.last c.in_ok-last.ensures.exact) [] no-paths c.in_err-low.ensures.exact;
}

pub returns-in_err-writes : goal.returns-in_err-writes
returns-in_err-writes c = record {
  exact =
      stops-last certificate_value c.read_writes.new.cursor c.from_residual-in_err-writes.result c.in_err-writes.field-0.0 c.from_residual-in_err-writes.ensures.1
      (final-read c.args.version (last-read c.args.version (notes-read c.args.version (chains-read c.args.version (has-read c.args.version (start-read c.args.version (path-read c.args.version c.in_ok-path.path c.in_ok-path.ensures.exact) (c.in_ok-min.min, c.in_ok-min.max) c.in_ok-min.ensures.exact) c.in_ok-has.has c.in_ok-has.ensures.exact) c.in_ok-landmarks.landmarks.items c.in_ok-landmarks.ensures.exact) (map note_value c.in_ok-notes.notes.items) c.in_ok-notes.ensures.exact) c.in_ok-last.last c.in_ok-last.ensures.exact) (c.in_ok-low.low, c.in_ok-low.high) c.in_ok-low.ensures.exact) c.in_err-writes.ensures.exact;
}

pub returns : goal.returns
returns c = record {
  exact = (
    certificate-formed c.args.version c.in_ok-path.path (c.in_ok-min.min, c.in_ok-min.max) c.in_ok-has.has c.in_ok-landmarks.landmarks.items (map note_value c.in_ok-notes.notes.items) c.in_ok-last.last (c.in_ok-low.low, c.in_ok-low.high) c.in_ok-writes.writes.items
        c.in_ok-path.ensures.exact.0 c.in_ok-min.ensures.exact.0 c.in_ok-has.ensures.exact.0 c.in_ok-landmarks.ensures.exact.0 c.in_ok-notes.ensures.exact.0 c.in_ok-last.ensures.exact.0 c.in_ok-low.ensures.exact.0 c.in_ok-writes.ensures.exact.0,
    rest-taken c.args.version c.in_ok-path.path (c.in_ok-min.min, c.in_ok-min.max) c.in_ok-has.has c.in_ok-landmarks.landmarks.items (map note_value c.in_ok-notes.notes.items) c.in_ok-last.last (c.in_ok-low.low, c.in_ok-low.high) c.in_ok-writes.writes.items
        c.in_ok-path.ensures.exact.1 c.in_ok-min.ensures.exact.1 c.in_ok-has.ensures.exact.1 c.in_ok-landmarks.ensures.exact.1 c.in_ok-notes.ensures.exact.1 c.in_ok-last.ensures.exact.1 c.in_ok-low.ensures.exact.1 c.in_ok-writes.ensures.exact.1,
  );
}
