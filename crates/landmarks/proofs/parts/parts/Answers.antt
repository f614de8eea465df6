use Rattle.std.proofs.lemmas.Result.{err_from_is_err_and}
use Rattle.landmarks.proofs.Ends.{end_later, stops_later, unless_map}
use Rattle.landmarks.proofs.Chains.{no_parts_none, no_parts_which, no_parts_gap, no_parts_tail, no_parts_tests}
use Rattle.landmarks.proofs.parts.parts.Goals as goal

pub returns-in_err-none-clause-spelled : goal.returns-in_err-none-clause-spelled
returns-in_err-none-clause-spelled c =
    let p = err_from_is_err_and c.from_residual.result c.from_residual.ensures.1 in
    rw (p.1, p.2) (unless_map c.in_err-none.field-0.0 no_parts_none c.in_err-none.ensures.spelled)

pub returns-in_err-which-clause-spelled : goal.returns-in_err-which-clause-spelled
returns-in_err-which-clause-spelled c =
    let p = err_from_is_err_and c.from_residual-in_err-which.result c.from_residual-in_err-which.ensures.1 in
    rw (p.1, p.2) (unless_map c.in_err-which.field-0.0 (no_parts_which c.in_ok-none.ensures.spelled) c.in_err-which.ensures.spelled)

pub returns-in_err-which-clause-told : goal.returns-in_err-which-clause-told
returns-in_err-which-clause-told c =
    let p = err_from_is_err_and c.from_residual-in_err-which.result c.from_residual-in_err-which.ensures.1 in
    rw (p.1, p.2) (stops_later c.in_err-which.field-0.0 c.in_ok-none.ensures.end c.in_err-which.ensures.told)

pub returns-in_err-gap-clause-spelled : goal.returns-in_err-gap-clause-spelled
returns-in_err-gap-clause-spelled c =
    let p = err_from_is_err_and c.from_residual-in_err-gap.result c.from_residual-in_err-gap.ensures.1 in
    rw (p.1, p.2) (unless_map c.in_err-gap.field-0.0 (no_parts_gap c.in_ok-none.ensures.spelled c.in_ok-which.ensures.spelled) c.in_err-gap.ensures.spelled)

pub returns-in_err-gap-clause-told : goal.returns-in_err-gap-clause-told
returns-in_err-gap-clause-told c =
    let p = err_from_is_err_and c.from_residual-in_err-gap.result c.from_residual-in_err-gap.ensures.1 in
    rw (p.1, p.2) (stops_later c.in_err-gap.field-0.0 (end_later c.in_ok-none.ensures.end c.in_ok-which.ensures.end) c.in_err-gap.ensures.told)

pub returns-in_err-tail-clause-spelled : goal.returns-in_err-tail-clause-spelled
returns-in_err-tail-clause-spelled c =
    let p = err_from_is_err_and c.from_residual-in_err-tail.result c.from_residual-in_err-tail.ensures.1 in
    rw (p.1, p.2) (unless_map c.in_err-tail.field-0.0 (no_parts_tail c.in_ok-none.ensures.spelled c.in_ok-which.ensures.spelled c.in_ok-gap.ensures.spelled) c.in_err-tail.ensures.spelled)

pub returns-in_err-tail-clause-told : goal.returns-in_err-tail-clause-told
returns-in_err-tail-clause-told c =
    let p = err_from_is_err_and c.from_residual-in_err-tail.result c.from_residual-in_err-tail.ensures.1 in
    rw (p.1, p.2) (stops_later c.in_err-tail.field-0.0 (end_later (end_later c.in_ok-none.ensures.end c.in_ok-which.ensures.end) c.in_ok-gap.ensures.end) c.in_err-tail.ensures.told)

pub returns-in_err-also-clause-spelled : goal.returns-in_err-also-clause-spelled
returns-in_err-also-clause-spelled c =
    let p = err_from_is_err_and c.from_residual-in_err-also.result c.from_residual-in_err-also.ensures.1 in
    rw (p.1, p.2) (unless_map c.in_err-also.field-0.0 (no_parts_tests c.in_ok-none.ensures.spelled c.in_ok-which.ensures.spelled c.in_ok-gap.ensures.spelled c.in_ok-tail.ensures.spelled)
    c.in_err-also.ensures.spelled)

pub returns-in_err-also-clause-told : goal.returns-in_err-also-clause-told
returns-in_err-also-clause-told c =
    let p = err_from_is_err_and c.from_residual-in_err-also.result c.from_residual-in_err-also.ensures.1 in
    rw (p.1, p.2) (stops_later c.in_err-also.field-0.0
    (end_later (end_later (end_later c.in_ok-none.ensures.end c.in_ok-which.ensures.end) c.in_ok-gap.ensures.end) c.in_ok-tail.ensures.end) c.in_err-also.ensures.told)

pub returns-clause-spelled : goal.returns-clause-spelled
returns-clause-spelled c = record {
  after_none = c.in_ok-none.rest.now;
  after_which = c.in_ok-which.rest.now;
  after_gap = c.in_ok-gap.rest.now;
  after_tail = c.in_ok-tail.rest.now;
  none = c.in_ok-none.ensures.spelled;
  which = c.in_ok-which.ensures.spelled;
  gap = c.in_ok-gap.ensures.spelled;
  tail = c.in_ok-tail.ensures.spelled;
  tests = c.in_ok-also.ensures.spelled;
}

pub returns-clause-end : goal.returns-clause-end
returns-clause-end c =
    end_later (end_later (end_later (end_later c.in_ok-none.ensures.end c.in_ok-which.ensures.end) c.in_ok-gap.ensures.end) c.in_ok-tail.ensures.end) c.in_ok-also.ensures.end
