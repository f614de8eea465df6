use Rattle.std.proofs.Common.{true, false}
use Rattle.cert_check.specs.Certificates.{boxed_value}
use Rattle.cert_check.specs.text.Pieces.{noted_value}
use Rattle.cert_check.proofs.texts.Pieces.{took-none, took-more, exits}
use Rattle.cert_check.proofs.texts.Noted.{noted-state, noted-head, noted-list, noted-turn, noted-plain, noted-listed, took-is, took-head}
use Rattle.cert_check.proofs.text.notes.read_note.Goals as goal

pub returns-in_err-state : goal.returns-in_err-state
returns-in_err-state c = record {
  exact =
      exits noted_value c.read_state.new.cursor c.from_residual.result c.in_err-state.field-0.0 c.from_residual.ensures.1
      (noted-state c.args.version) (took-none c.args.cursor.now) c.in_err-state.ensures.exact;
}

pub returns-in_err-read_head : goal.returns-in_err-read_head
returns-in_err-read_head c = record {
  exact =
      exits noted_value c.read_head.new.cursor c.from_residual-in_err-read_head.result c.in_err-read_head.field-0.0 c.from_residual-in_err-read_head.ensures.1
      (noted-head c.args.version c.in_ok-state.state c.in_ok-state.ensures.exact.0) c.in_ok-state.ensures.exact.1 c.in_err-read_head.ensures.exact;
}

pub returns-in_err-looped-in-Loop : goal.returns-in_err-looped-in-Loop
returns-in_err-looped-in-Loop c = record {
  exact =
      exits noted_value c.read_list.new.cursor c.from_residual-in_err-looped-in-Loop.result c.in_err-looped-in-Loop.field-0.0 c.from_residual-in_err-looped-in-Loop.ensures.1
      (noted-list c.args.version c.in_ok-state.state c.in_ok-state.ensures.exact.0) (took-more c.in_ok-state.ensures.exact.1 (took-head c.in-Loop.is c.in_ok-read_head.ensures.exact.1)) c.in_err-looped-in-Loop.ensures.exact;
}

pub returns-in_err-another-in-Loop : goal.returns-in_err-another-in-Loop
returns-in_err-another-in-Loop c = record {
  exact =
      exits noted_value c.read_either.new.cursor c.from_residual-in_err-another-in-Loop.result c.in_err-another-in-Loop.field-0.0 c.from_residual-in_err-another-in-Loop.ensures.1
      (noted-turn c.args.version c.in_ok-state.state (boxed_value c.in_ok-looped-in-Loop.looped) c.in_ok-state.ensures.exact.0 c.in_ok-looped-in-Loop.ensures.exact.0) (took-more (took-more c.in_ok-state.ensures.exact.1 (took-head c.in-Loop.is c.in_ok-read_head.ensures.exact.1)) c.in_ok-looped-in-Loop.ensures.exact.1) c.in_err-another-in-Loop.ensures.exact;
}

pub returns-in-AnotherNote : goal.returns-in-AnotherNote
returns-in-AnotherNote c = record {
  exact = (
    (c.in_ok-state.ensures.exact.0, tt),
    took-is (noted-plain c.args.version c.in_ok-state.state true) (took-more c.in_ok-state.ensures.exact.1 (took-head c.in-AnotherNote.is c.in_ok-read_head.ensures.exact.1)),
  );
}

pub returns-in-End : goal.returns-in-End
returns-in-End c = record {
  exact = (
    (c.in_ok-state.ensures.exact.0, tt),
    took-is (noted-plain c.args.version c.in_ok-state.state false) (took-more c.in_ok-state.ensures.exact.1 (took-head c.in-End.is c.in_ok-read_head.ensures.exact.1)),
  );
}

pub returns-in_ok-another-in-Loop : goal.returns-in_ok-another-in-Loop
returns-in_ok-another-in-Loop c = record {
  exact = (
    (c.in_ok-state.ensures.exact.0, c.in_ok-looped-in-Loop.ensures.exact.0),
    took-is (noted-listed c.args.version c.in_ok-state.state (boxed_value c.in_ok-looped-in-Loop.looped) c.in_ok-another-in-Loop.another)
        (took-more (took-more (took-more c.in_ok-state.ensures.exact.1 (took-head c.in-Loop.is c.in_ok-read_head.ensures.exact.1)) c.in_ok-looped-in-Loop.ensures.exact.1) c.in_ok-another-in-Loop.ensures.exact.1),
  );
}
