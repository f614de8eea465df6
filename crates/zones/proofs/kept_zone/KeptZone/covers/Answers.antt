use Rattle.std.proofs.Common.{◌∙◌, sym}
use Rattle.zones.specs.Steps.{any_zone}
use Rattle.zones.specs.Written.{written}
use Rattle.zones.proofs.ReachLemmas.{AreUnknown-reach, reach-in_range}
use Rattle.zones.proofs.Soundness.{Holds-covers}
use Rattle.zones.proofs.kept_zone.KeptZone.covers.Goals as goal

pub returns-clause-sound : goal.returns-clause-sound
returns-clause-sound c t number h =
    rw (← c.self.view_is)
    (Holds-covers _ _ number
    ((c.entries_cover.ensures.exact (written c.self.inside.entries.items any_zone) c.self.invariant.zone.size (c.self.invariant.known ∙ sym c.as_slice.ensures.value)).0 t)
    (rw c.other.view_is h))

pub entries_cover-requires-clause-reach : goal.entries_cover-requires-clause-reach
entries_cover-requires-clause-reach c = reach-in_range _ _ c.other.invariant.known

pub entries_cover-requires-clause-unknown : goal.entries_cover-requires-clause-unknown
entries_cover-requires-clause-unknown c = AreUnknown-reach _ _ c.other.invariant.known
