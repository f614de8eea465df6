use Rattle.std.proofs.Common.{None, arith, ◌∙◌, refl}
use Rattle.std.proofs.lemmas.List.{get_or_default}
use Rattle.zones.specs.Zone.{bound}
use Rattle.zones.proofs.Soundness.{Obeys-bound}
use Rattle.zones.proofs.zone.Zone.bound.Goals as goal

pub returns-clause-value : goal.returns-clause-value
unfolding bound
returns-clause-value c =
    c.get.ensures.value ∙ get_or_default c.self.inside.table _ _ None (omega arith)
    ∙ rw (c.place.ensures.value, c.place-2.ensures.value, c.self.view_is) refl

pub returns-clause-sound : goal.returns-clause-sound
returns-clause-sound c number holds =
    rw (returns-clause-value c)
    (Obeys-bound c.args.self.now c.args.x c.args.y number
    (rw (← c.place.ensures.value) c.place.ensures.in_range)
    (rw (← c.place-2.ensures.value) c.place-2.ensures.in_range)
    holds)
