use Rattle.std.proofs.Common.{refl, subst}
use Rattle.ed_syntax.specs.reading.Reading.{script_of}
use Rattle.hints.specs.declared.given.Given.{Given}
use Rattle.hints.specs.Landmarks.{given_of, IsLandmarked}
use Rattle.hints.proofs.ByLandmarks.{tried_marked}
use Rattle.hints.proofs.marked.with_landmark.Goals as goal

pub returns-clause-tried : goal.returns-clause-tried
returns-clause-tried c =
    let found = rw c.in-Some.is at c.in_ok-opened.ensures.landmarked in
    let landmarked : IsLandmarked (script_of c.args.script.now) (given_of c.args.start.now) c.in-Some.opened =
    subst (λ (g : Given). IsLandmarked (script_of c.args.script.now) g c.in-Some.opened) c.in_ok-given.ensures.value found in
    tried_marked c.args.start.now c.args.place _ c.args.script.now c.in-Some.opened landmarked (rw c.in-Some.is at c.in_ok-opened.ensures.somewhere) c.in_ok-from_slice.ensures.value refl
    c.unchanged_at.ensures.unchanged
