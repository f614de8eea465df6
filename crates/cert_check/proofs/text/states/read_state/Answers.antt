use Rattle.cert_check.specs.text.Pieces.{same, buffer_value}
use Rattle.cert_check.proofs.texts.Pieces.{took-more}
use Rattle.cert_check.proofs.texts.Plainest.{plain_undo, plain-undo, state-formed}
use Rattle.cert_check.proofs.texts.Sequence.{stops, stops-last}
use Rattle.cert_check.proofs.texts.Stated.{state-begun, buffer-read, patterns-read, replacements-read, names-read, changed-read, state-taken, plain_from_changed, plain-from_changed, plain_from_names, plain-from_names, plain_from_replacements, plain-from_replacements, plain_from_patterns, plain-from_patterns}
use Rattle.cert_check.proofs.text.states.read_state.Goals as goal

pub returns-in_err-buffer : goal.returns-in_err-buffer
returns-in_err-buffer c = record {
  exact =
      stops _ _ _ _ same c.read_own.new.cursor c.from_residual.result c.in_err-buffer.field-0.0 c.from_residual.ensures.1
      (state-begun c.args.version c.args.cursor.now) plain_from_patterns (plain-from_patterns c.args.version) c.in_err-buffer.ensures.exact;
}

pub returns-in_err-patterns : goal.returns-in_err-patterns
returns-in_err-patterns c = record {
  exact =
      stops _ _ _ _ same c.read_choices.new.cursor c.from_residual-in_err-patterns.result c.in_err-patterns.field-0.0 c.from_residual-in_err-patterns.ensures.1
      (buffer-read c.args.version (buffer_value c.in_ok-buffer.buffer) c.in_ok-buffer.ensures.exact) plain_from_replacements (plain-from_replacements c.args.version) c.in_err-patterns.ensures.exact;
}

pub returns-in_err-replacements : goal.returns-in_err-replacements
returns-in_err-replacements c = record {
  exact =
      stops _ _ _ _ same c.read_replacements.new.cursor c.from_residual-in_err-replacements.result c.in_err-replacements.field-0.0 c.from_residual-in_err-replacements.ensures.1
      (patterns-read c.args.version (buffer-read c.args.version (buffer_value c.in_ok-buffer.buffer) c.in_ok-buffer.ensures.exact) c.in_ok-patterns.patterns c.in_ok-patterns.ensures.exact) plain_from_names (plain-from_names c.args.version) c.in_err-replacements.ensures.exact;
}

pub returns-in_err-names : goal.returns-in_err-names
returns-in_err-names c = record {
  exact =
      stops _ _ _ _ same c.read_choices-2.new.cursor c.from_residual-in_err-names.result c.in_err-names.field-0.0 c.from_residual-in_err-names.ensures.1
      (replacements-read c.args.version (patterns-read c.args.version (buffer-read c.args.version (buffer_value c.in_ok-buffer.buffer) c.in_ok-buffer.ensures.exact) c.in_ok-patterns.patterns c.in_ok-patterns.ensures.exact) c.in_ok-replacements.replacements c.in_ok-replacements.ensures.exact) plain_from_changed (plain-from_changed c.args.version) c.in_err-names.ensures.exact;
}

pub returns-in_err-changed : goal.returns-in_err-changed
returns-in_err-changed c = record {
  exact =
      stops _ _ _ _ same c.read_changed.new.cursor c.from_residual-in_err-changed.result c.in_err-changed.field-0.0 c.from_residual-in_err-changed.ensures.1
      (names-read c.args.version (replacements-read c.args.version (patterns-read c.args.version (buffer-read c.args.version (buffer_value c.in_ok-buffer.buffer) c.in_ok-buffer.ensures.exact) c.in_ok-patterns.patterns c.in_ok-patterns.ensures.exact) c.in_ok-replacements.replacements c.in_ok-replacements.ensures.exact) c.in_ok-names.names c.in_ok-names.ensures.exact) plain_undo (plain-undo c.args.version) c.in_err-changed.ensures.exact;
}

pub returns-in_err-undo : goal.returns-in_err-undo
returns-in_err-undo c = record {
  exact =
      stops-last same c.read_undo.new.cursor c.from_residual-in_err-undo.result c.in_err-undo.field-0.0 c.from_residual-in_err-undo.ensures.1
      (changed-read c.args.version (names-read c.args.version (replacements-read c.args.version (patterns-read c.args.version (buffer-read c.args.version (buffer_value c.in_ok-buffer.buffer) c.in_ok-buffer.ensures.exact) c.in_ok-patterns.patterns c.in_ok-patterns.ensures.exact) c.in_ok-replacements.replacements c.in_ok-replacements.ensures.exact) c.in_ok-names.names c.in_ok-names.ensures.exact) c.in_ok-changed.changed c.in_ok-changed.ensures.exact) c.in_err-undo.ensures.exact;
}

pub returns : goal.returns
returns c = record {
  exact = rw (c.new.ensures.value, c.does_follow.ensures.value) (
    state-formed c.args.version (buffer_value c.in_ok-buffer.buffer) c.in_ok-patterns.patterns c.in_ok-replacements.replacements c.in_ok-names.names c.in_ok-changed.changed (c.in_ok-undo.undo, c.in_ok-undo.old_has)
        c.in_ok-buffer.ensures.exact.0 c.in_ok-patterns.ensures.exact.0 c.in_ok-replacements.ensures.exact.0 c.in_ok-names.ensures.exact.0 c.in_ok-changed.ensures.exact.0 c.in_ok-undo.ensures.exact.0,
    state-taken c.args.version (buffer_value c.in_ok-buffer.buffer) c.in_ok-patterns.patterns c.in_ok-replacements.replacements c.in_ok-names.names c.in_ok-changed.changed (c.in_ok-undo.undo, c.in_ok-undo.old_has)
        c.in_ok-buffer.ensures.exact.1
        (took-more (took-more (took-more (took-more c.in_ok-patterns.ensures.exact.1 c.in_ok-replacements.ensures.exact.1) c.in_ok-names.ensures.exact.1) c.in_ok-changed.ensures.exact.1) c.in_ok-undo.ensures.exact.1),
  );
}
