use Rattle.cert_check.proofs.verdicts.Opening.{start-sound}
use Rattle.cert_check.proofs.laws.starts_are_sound.Goals as goal

pub returns : goal.returns
returns c = record { sound = start-sound c.files_have_lines.ensures.marks c.files_have_lines.ensures.lines }
