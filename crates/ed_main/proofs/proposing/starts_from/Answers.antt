-- A start that is stated has the landmarks that are asked for, and no file was read.
use Rattle.std.proofs.Common.{refl}
use Rattle.ed_main.proofs.proposing.starts_from.Goals as goal

pub returns-in-Stated-clause-found : goal.returns-in-Stated-clause-found
returns-in-Stated-clause-found g c = rw c.in-Stated.is (c.landmarked.ensures.landmarked, refl)
