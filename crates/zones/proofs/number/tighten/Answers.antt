use Rattle.std.proofs.Common.{◌≡◌, ◌+ℤ◌, ◌∙◌}
use Rattle.std.proofs.lemmas.Int.{to_z-of_z}
use Rattle.zones.specs.Bound.{clip}
use Rattle.zones.proofs.Clamps.{lesser-clip}
use Rattle.zones.proofs.number.tighten.Goals as goal

pub returns : goal.returns
returns c =
    let sum = c.args.to +ℤ c.args.c +ℤ c.args.from in
    let clipped : c.clip_sum.result ≡ clip sum = simp (to_z-of_z _ _ c.ranges.to, to_z-of_z _ _ c.ranges.c, to_z-of_z _ _ c.ranges.from) at c.clip_sum.ensures.value in
    record { value = c.lesser.ensures.value ∙ rw clipped (lesser-clip c.args.direct sum (rw (← c.get-kept.ensures.value) c.get-kept.ensures.kept)) }
