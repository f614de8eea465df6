use Rattle.ed_calls.specs.RunOver.{lines_told}
use Rattle.ed_calls.proofs.LandmarkedStarts.{early_without}
use Rattle.ed_calls.proofs.placed.first_missed.Goals as goal

pub returns-in-One : goal.returns-in-One
returns-in-One c =
    let certificate = c.args.certificate.now in
    record {
      placed = λ _. early_without certificate.version certificate.landmarks.items (lines_told c.args.start.now) c.in-One.is;
      missed = tt;
    }

pub returns-in-Three-clause-missed : goal.returns-in-Three-clause-missed
returns-in-Three-clause-missed c =
    rw c.in-Three.is (rw c.as_slice.ensures.value at c.missed_at.ensures.missed)
