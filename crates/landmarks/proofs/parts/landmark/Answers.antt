use Rattle.std.proofs.Common.{refl}
use Rattle.std.proofs.lemmas.Result.{err_from_is_err_and}
use Rattle.landmarks.proofs.Ends.{end_all, unless_map}
use Rattle.landmarks.proofs.Chains.{no_landmark, no_landmark_never}
use Rattle.landmarks.proofs.parts.landmark.Goals as goal

pub returns-in_err-landmark-clause-spelled : goal.returns-in_err-landmark-clause-spelled
returns-in_err-landmark-clause-spelled c =
    let p = err_from_is_err_and c.from_residual.result c.from_residual.ensures.1 in
    rw (p.1, p.2) (unless_map c.in_err-landmark.field-0.0 no_landmark c.in_err-landmark.ensures.spelled)

pub returns-in-Some-clause-spelled : goal.returns-in-Some-clause-spelled
returns-in-Some-clause-spelled c = no_landmark_never c.in-Some.why c.in_ok-landmark.ensures.spelled (rw c.in-Some.is at c.in_ok-why.ensures.value)

pub returns-in-Some-clause-told : goal.returns-in-Some-clause-told
returns-in-Some-clause-told c = record {
  here = c.args.text.now;
  end = end_all c.args.text.now;
  left_is = refl;
  wrong = record {
    rest = c.in_ok-landmark.rest.now;
    landmark = c.in_ok-landmark.landmark;
    parts = c.in_ok-landmark.ensures.spelled;
    never = rw c.in-Some.is at c.in_ok-why.ensures.value;
  };
}
