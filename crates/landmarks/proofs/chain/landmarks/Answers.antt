use Rattle.std.proofs.Common.{◌<◌, ◌≤◌, length, sym, ap, ◌∙◌, arith}
use Rattle.std.proofs.lemmas.Grind.{common_steps}
use Rattle.std.proofs.lemmas.Result.{err_from_is_err_and}
use Rattle.landmarks.proofs.Ends.{stops_later, unless_map}
use Rattle.landmarks.proofs.Chains.{no_landmarks, no_landmarks_end}
use Rattle.landmarks.proofs.WordReads.{no_bytes}
use Rattle.landmarks.proofs.Told.{wrong_end}
use Rattle.landmarks.proofs.PartReads.{landmarks_step, landmarks_done, landmarks_stuck}
use Rattle.landmarks.proofs.chain.landmarks.Goals as goal

pub returns-in_err-landmark-clause-spelled : goal.returns-in_err-landmark-clause-spelled
returns-in_err-landmark-clause-spelled c =
    let p = err_from_is_err_and c.from_residual.result c.from_residual.ensures.1 in
    rw (p.1, p.2) (unless_map c.in_err-landmark.field-0.0 (λ lacking. landmarks_stuck c.landmarks.invariant (no_landmarks lacking)) c.in_err-landmark.ensures.spelled)

pub returns-in_err-landmark-clause-told : goal.returns-in_err-landmark-clause-told
returns-in_err-landmark-clause-told c =
    let p = err_from_is_err_and c.from_residual.result c.from_residual.ensures.1 in
    rw (p.1, p.2) (stops_later c.in_err-landmark.field-0.0 c.landmarks.invariant.end c.in_err-landmark.ensures.told)

pub landmarks-preserved : goal.landmarks-preserved
landmarks-preserved c =
    landmarks_step c.in_ok-landmark.ensures.spelled c.in_ok-landmark.ensures.end c.in-Some.ensures.value c.in_ok-push.ensures.items c.landmarks.invariant

pub returns-then-is_empty-clause-spelled : goal.returns-then-is_empty-clause-spelled
returns-then-is_empty-clause-spelled c =
    let here = c.after_blanks-here.result.now in
    let none : length here < 1 = grind (arith, common_steps) in
    landmarks_done c.in_ok-landmark.ensures.spelled (sym c.after_blanks-here.ensures.value ∙ no_bytes here none) c.in_ok-push.ensures.items c.landmarks.invariant

pub returns-in-None-clause-spelled : goal.returns-in-None-clause-spelled
returns-in-None-clause-spelled c =
    let here = c.after_blanks-here.result.now in
    let some : 1 ≤ length here = grind (arith, common_steps) in
    landmarks_stuck c.landmarks.invariant (no_landmarks_end c.in_ok-landmark.ensures.spelled
    (λ over. absurd (omega (arith, some, ap length (c.after_blanks-here.ensures.value ∙ over)))) c.in-None.ensures.value)

pub returns-in-None-clause-told : goal.returns-in-None-clause-told
returns-in-None-clause-told c =
    let here = c.after_blanks-here.result.now in
    let some : 1 ≤ length here = grind (arith, common_steps) in
    wrong_end c.landmarks.invariant.end c.in_ok-landmark.ensures.end here c.after_blanks-here.ensures.value some c.in-None.ensures.value
