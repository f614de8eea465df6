use Rattle.cert_check.proofs.verdicts.Beginning.{LandmarkLaws}
use Rattle.cert_check.proofs.verdicts.Starting.{accepted-safe}
use Rattle.cert_check.proofs.laws.accepted_scripts_cannot_fail.Goals as goal

pub returns : goal.returns
returns c =
    let landmarks : LandmarkLaws = record {
      start = c.landmarks_are_where_they_are_said.ensures.start;
      marked = c.landmarks_are_where_they_are_said.ensures.marked;
    } in
    record {
      sound = accepted-safe landmarks c.starts_are_sound.ensures.sound c.marked_starts_stand.ensures.sound
          c.marked_starts_suffice.ensures.sound;
    }
