-- What was found is of what the file gives, and the file is one that it allows.
use Rattle.std.proofs.Common.{ℕ, List, subst}
use Rattle.ed_base.specs.Lines.{lines_of}
use Rattle.ed_syntax.specs.reading.Reading.{script_of}
use Rattle.hints.specs.declared.given.Given.{Given}
use Rattle.hints.specs.Landmarks.{IsLandmarked}
use Rattle.hints.specs.Allowing.{AllowsFile}
use Rattle.ed_calls.proofs.starts.landmarked_like.Goals as goal

pub returns : goal.returns
returns c =
    let found = rw c.in-Some.is at c.in_ok-start.ensures.landmarked in
    record {
      landmarked = record {
        landmarked = subst (λ (g : Given). IsLandmarked (script_of c.args.script.now) g c.in-Some.start) c.in_ok-given.ensures.value found;
        allows = subst (λ (bytes : List ℕ). AllowsFile c.in-Some.start (lines_of bytes)) c.as_slice.ensures.value
            (c.in_ok-allows_file.ensures.exact.0 c.if-not-branch.false);
      };
    }
