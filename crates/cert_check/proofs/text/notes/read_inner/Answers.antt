use Rattle.std.specs.Prelude.{codes}
use Rattle.cert_check.proofs.texts.Pieces.{took-more, exits}
use Rattle.cert_check.proofs.texts.Noted.{inner-turn, inner-state, inner-step, inner-all, took-is, took-turn}
use Rattle.cert_check.proofs.text.notes.read_inner.Goals as goal

pub returns-in_err-read_either : goal.returns-in_err-read_either
returns-in_err-read_either c = record {
  exact =
      exits (λ v. v.items) c.read_either.new.cursor c.from_residual.result c.in_err-read_either.field-0.0 c.from_residual.ensures.1
      (inner-turn c.args.version c.states.states.items c.states.invariant.0) c.states.invariant.1 c.in_err-read_either.ensures.exact;
}

pub returns-in_err-read_state : goal.returns-in_err-read_state
returns-in_err-read_state c = record {
  exact =
      exits (λ v. v.items) c.read_state.new.cursor c.from_residual-in_err-read_state.result c.in_err-read_state.field-0.0 c.from_residual-in_err-read_state.ensures.1
      (inner-state c.args.version c.states.states.items c.states.invariant.0) (took-more c.states.invariant.1 (took-turn (codes "inner") (codes "done") c.if-branch.true c.in_ok-read_either.ensures.exact.1)) c.in_err-read_state.ensures.exact;
}

pub states-preserved : goal.states-preserved
states-preserved c =
    inner-step c.args.version c.states.states.items c.in_ok-read_state.field-0 c.push.new.self.items c.in_ok-push.ensures.items c.states.invariant.0 c.in_ok-read_state.ensures.exact.0
    c.states.invariant.1 (took-turn (codes "inner") (codes "done") c.if-branch.true c.in_ok-read_either.ensures.exact.1) c.in_ok-read_state.ensures.exact.1

pub returns : goal.returns
returns c = record {
  exact = (
    c.states.invariant.0,
    took-is (inner-all c.args.version c.states.states.items)
        (took-more c.states.invariant.1 (took-turn (codes "inner") (codes "done") c.if-branch.false c.in_ok-read_either.ensures.exact.1)),
  );
}
