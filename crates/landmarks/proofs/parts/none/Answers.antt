use Rattle.std.proofs.Common.{ap, ◌∙◌}
use Rattle.std.proofs.lemmas.Result.{err_from_is_err_and}
use Rattle.ed_base.specs.Texts.{with_text}
use Rattle.landmarks.proofs.Ends.{end_later, stops_later, unless_map}
use Rattle.landmarks.proofs.PartReads.{none_step, none_done, none_stuck}
use Rattle.landmarks.proofs.parts.none.Goals as goal

pub returns-in_err-pattern-clause-spelled : goal.returns-in_err-pattern-clause-spelled
returns-in_err-pattern-clause-spelled c =
    let p = err_from_is_err_and c.from_residual.result c.from_residual.ensures.1 in
    rw (p.1, p.2) (unless_map c.in_err-pattern.field-0.0 (none_stuck c.in-Some.ensures.spelled c.patterns.invariant) c.in_err-pattern.ensures.spelled)

pub returns-in_err-pattern-clause-told : goal.returns-in_err-pattern-clause-told
returns-in_err-pattern-clause-told c =
    let p = err_from_is_err_and c.from_residual.result c.from_residual.ensures.1 in
    rw (p.1, p.2) (stops_later c.in_err-pattern.field-0.0 (end_later c.patterns.invariant.end c.in-Some.ensures.end) c.in_err-pattern.ensures.told)

pub patterns-preserved : goal.patterns-preserved
patterns-preserved c =
    none_step c.in-Some.ensures.spelled c.in-Some.ensures.end c.in_ok-pattern.ensures.spelled c.in_ok-pattern.ensures.end
    (c.in_ok-add.ensures.value ∙ ap (λ text. with_text text c.patterns.none) c.as_slice.ensures.value) c.patterns.invariant

pub returns-clause-spelled : goal.returns-clause-spelled
returns-clause-spelled c = none_done c.in_default.ensures.spelled c.patterns.invariant
