use Rattle.zones.proofs.Order.{Covers-join_of, Covers-join_of_other}
use Rattle.zones.proofs.Soundness.{Holds-join_of, Holds-join_of_other}
use Rattle.zones.proofs.zone.Zone.join.Goals as goal

pub returns-clause-sound : goal.returns-clause-sound
returns-clause-sound c number h = rw c.merge.ensures.exact (Holds-join_of _ _ number h)

pub returns-clause-sound_of_other : goal.returns-clause-sound_of_other
returns-clause-sound_of_other c number h = rw c.merge.ensures.exact (Holds-join_of_other _ _ number h)

pub returns-clause-covers : goal.returns-clause-covers
returns-clause-covers c = rw c.merge.ensures.exact (Covers-join_of _ _)

pub returns-clause-covers_other : goal.returns-clause-covers_other
returns-clause-covers_other c = rw c.merge.ensures.exact (Covers-join_of_other _ _)
