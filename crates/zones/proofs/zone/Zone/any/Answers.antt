use Rattle.std.proofs.Common.{sym}
use Rattle.zones.proofs.Kept.{IsZone-any_zone}
use Rattle.zones.proofs.ReachLemmas.{reach_of-any_zone}
use Rattle.zones.proofs.Soundness.{Holds-any_zone}
use Rattle.zones.proofs.zone.Zone.any.Goals as goal

pub returns-clause-sound : goal.returns-clause-sound
returns-clause-sound c number = rw c.any_table.ensures.exact (Holds-any_zone number)

pub invariant_of-result : goal.invariant_of-result
invariant_of-result c = rw c.any_table.ensures.exact (record { zone = IsZone-any_zone; known = sym reach_of-any_zone })
