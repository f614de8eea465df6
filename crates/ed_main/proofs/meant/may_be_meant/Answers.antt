use Rattle.ed_main.specs.Meant as meaning
use Rattle.ed_main.proofs.meant.may_be_meant.Goals as goal

pub returns-in-Ok-clause-sound : goal.returns-in-Ok-clause-sound
returns-in-Ok-clause-sound g c = λ found. meaning.looks c.as_slice-in-Ok.result.now (c.has_look.ensures.sound found)
