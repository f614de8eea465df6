use Rattle.std.proofs.lemmas.Result.{err_from_is_err_and}
use Rattle.landmarks.specs.Spelled.{SpellsDistance}
use Rattle.landmarks.proofs.Ends.{end_later, stops_later, unless_map}
use Rattle.landmarks.proofs.Determined.{no_distance}
use Rattle.landmarks.proofs.parts.distance.Goals as goal

pub returns-in_err-n-in-Some-clause-spelled : goal.returns-in_err-n-in-Some-clause-spelled
returns-in_err-n-in-Some-clause-spelled c =
    let p = err_from_is_err_and c.from_residual.result c.from_residual.ensures.1 in
    rw (p.1, p.2) (unless_map c.in_err-n-in-Some.field-0.0 (no_distance c.in-Some.ensures.spelled) c.in_err-n-in-Some.ensures.spelled)

pub returns-in_err-n-in-Some-clause-told : goal.returns-in_err-n-in-Some-clause-told
returns-in_err-n-in-Some-clause-told c =
    let p = err_from_is_err_and c.from_residual.result c.from_residual.ensures.1 in
    rw (p.1, p.2) (stops_later c.in_err-n-in-Some.field-0.0 c.in-Some.ensures.end c.in_err-n-in-Some.ensures.told)

pub returns-in_ok-n-in-Some-clause-spelled : goal.returns-in_ok-n-in-Some-clause-spelled
returns-in_ok-n-in-Some-clause-spelled c =
    SpellsDistance.said c.args.text.now c.in-Some.count_text.now c.in_ok-n-in-Some.rest.now c.in_ok-n-in-Some.n c.in-Some.ensures.spelled c.in_ok-n-in-Some.ensures.spelled

pub returns-in_ok-n-in-Some-clause-end : goal.returns-in_ok-n-in-Some-clause-end
returns-in_ok-n-in-Some-clause-end c = end_later c.in-Some.ensures.end c.in_ok-n-in-Some.ensures.end

pub returns-in-None-clause-spelled : goal.returns-in-None-clause-spelled
returns-in-None-clause-spelled c = SpellsDistance.unsaid c.args.text.now c.in-None.ensures.spelled
