use Rattle.zones.proofs.Order.{Covers-widening_of, Covers-widening_of_other}
use Rattle.zones.proofs.Soundness.{Holds-widening_of, Holds-widening_of_other}
use Rattle.zones.proofs.zone.Zone.widen.Goals as goal

pub returns-clause-sound : goal.returns-clause-sound
returns-clause-sound c number h = rw c.merge.ensures.exact (Holds-widening_of _ _ number h)

pub returns-clause-sound_of_other : goal.returns-clause-sound_of_other
returns-clause-sound_of_other c number h = rw c.merge.ensures.exact (Holds-widening_of_other _ _ number h)

pub returns-clause-covers : goal.returns-clause-covers
returns-clause-covers c = rw c.merge.ensures.exact (Covers-widening_of _ _)

pub returns-clause-covers_other : goal.returns-clause-covers_other
returns-clause-covers_other c = rw c.merge.ensures.exact (Covers-widening_of_other _ _)
